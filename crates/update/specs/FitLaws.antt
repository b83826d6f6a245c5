-- The slices hold what a change left in them: the next change may start from it.
use Rattle.std.specs.Prelude.{◌≡◌, ℕ, ◌<◌, Bool, List, length}
use Rattle.std.proofs.Common.{◌∙◌}
use Rattle.update.specs.declared.Overlay.{Overlay}
use Rattle.update.specs.declared.Image.{Image}
use Rattle.update.specs.Verdict.{Verdict}
use Rattle.update.specs.Image.{image_in}
use Rattle.update.specs.Update.{Over, keep_size, try_touch, try_grow_to, try_chop}
use Rattle.update.specs.Rooms.{try_touch_lem, try_grow_lem, try_chop_lem, size_room}
use Rattle.update.specs.Buffers.{Buffers, frame_count, entry_count, cached, view}
use Rattle.update.specs.Laid.{laid, Fits, touched, grown, grown_to, chopped}
use Rattle.update.specs.LeaveLaws.{view_room, step_fits}
use Rattle.update.specs.StepLaws.{grown_as}

module _ (P C : ℕ) (pos : 0 < P) (v : Overlay) (l : Buffers) (fits : Fits P C v l) (M : ℕ) (i : Image) (mem : List ℕ) where
  abbrev F : ℕ
  F = frame_count P l

  abbrev R : ℕ
  R = entry_count l

  abbrev K : ℕ
  K = length (cached P C v.cache)

  abbrev b : ℕ → ℕ
  b = image_in P i mem

  abbrev U : Over
  U = view P C v l

  module _ {v1 : Overlay} {l1 : Buffers} {a : Verdict} where
    pub touched_fits : (k : Bool) (u : ℕ → ℕ → ℕ) (p : ℕ) → touched P C M i mem v l k u p ≡ laid v1 l1 a → Fits P C v1 l1
    unfolding touched
    touched_fits k u p e = step_fits P C pos v l fits v.dirty (try_touch P M F R b k u p U) fits.0 (try_touch_lem P M F R K b k u p U (view_room P C pos v l fits)) v1 l1 a e

    pub chopped_fits : (n : ℕ) → chopped P C M v l n ≡ laid v1 l1 a → Fits P C v1 l1
    unfolding chopped
    chopped_fits n e = step_fits P C pos v l fits v.dirty (try_chop P M F R n U) fits.0 (try_chop_lem P M F R K b n U (view_room P C pos v l fits)) v1 l1 a e

    pub grown_fits : (n : ℕ) → v.size < n → grown P C M i mem v l n ≡ laid v1 l1 a → Fits P C v1 l1
    grown_fits n h e = step_fits P C pos v l fits v.dirty (try_grow_to P M F R b n U) fits.0 (try_grow_lem P M F R K b n U (view_room P C pos v l fits)) v1 l1 a (grown_as P C pos v l fits M i mem n h ∙ e)

    pub grown_to-fits : (n : ℕ) → grown_to P C M i mem v l n ≡ laid v1 l1 a → Fits P C v1 l1
    unfolding grown_to
    grown_to-fits n e = step_fits P C pos v l fits v.dirty (keep_size v.size (try_grow_to P M F R b n U)) fits.0
        (size_room P M F R K b v.size (try_grow_to P M F R b n U) (try_grow_lem P M F R K b n U (view_room P C pos v l fits))) v1 l1 a e
