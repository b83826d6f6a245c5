-- 10 OF A DIRECT CALL FOR A HOST (02, W-203): a C call to write or to truncate while an import is open and no update is, by its own contract.
use Rattle.std.specs.Prelude.{◌≡◌, refl, true, false, List, ℕ, ltb, length}
use Rattle.std.proofs.Common.{sym, ap, ◌∙◌, subst, arith}
use Rattle.config.specs.declared.refusal.Refusal.TheVariants.{ImportAlreadyStarted}
use Rattle.store.specs.declared.State.{State}
use Rattle.store.specs.Calls.{Call, write, truncate, Out, number}
use Rattle.store.specs.Codec.{real_codec}
use Rattle.store.specs.Cases.{no_or}
use Rattle.store.specs.Store.{barred, refuse}
use Rattle.store.proofs.WaysOut.{barred_is, only_changes, store_barred}
use Rattle.store.proofs.Grounds.{write_10, truncate_10}
use Rattle.encoding.specs.StateBytes.{state_bytes, state_in}
use Rattle.encoding.specs.Called.{out_of}
use Rattle.plain_file.specs.Sizes.{short'}
use Rattle.host_calls.specs.Made.{Made, looks}
use Rattle.host_calls.specs.CCalls.{CCall, made_of}
use Rattle.host_calls.proofs.CCallLaws.{by_c}
use Rattle.host_calls.specs.HostClaim.{too_little}
use Rattle.host_calls.specs.Host.{HostBarred}
use Rattle.host_calls.proofs.Host.{room}
use Rattle.host_calls.specs.Seen.{Seen}
use Rattle.host_calls.proofs.Seen.{seen, bytes_left}

module _ (c : CCall) (long : length (made_of c).state ≡ 336) (enough : too_little (made_of c).state (made_of c) ≡ false) where
  abbrev e : Made
  e = made_of c

  tests : (ltb (length e.answer) 4 ≡ false) × (short' (state_in e.state) e.lent e.call ≡ false)
  tests = no_or _ _ enough

  is_seen : Seen e (out_of (state_in e.state) e.lent e.call)
  is_seen = seen e (by_c c) long (room e.state e.answer long false tests.0) tests.1

  -- whatever offset, size and bytes it is given
  pub host_barred : barred (state_in e.state) e.call ≡ true → HostBarred e
  host_barred b =
      let q : out_of (state_in e.state) e.lent e.call ≡ refuse (state_in e.state) e.lent e.call ImportAlreadyStarted =
      store_barred 16384 65536 8 1024 18446744073709551615 real_codec (state_in e.state) e.lent e.call tests.1 b in
      let v : Seen e (refuse (state_in e.state) e.lent e.call ImportAlreadyStarted) = subst (Seen e) q is_seen in
      record {
        returned = v.returned;
        lent = v.lent;
        state = v.state;
        bytes = bytes_left e (by_c c) (room e.state e.answer long false tests.0) (λ z. omega (arith, z, ap (λ (x : Out). number x.answer) q)) (only_changes (λ x. looks x ≡ false) (λ o bs. refl) (λ n. refl) e.call (barred_is (state_in e.state) e.call b).changes_is) ∙ ap (λ (x : Out). state_bytes x.state) q;
        answer = v.answer;
      }

  -- so the bytes that an earlier call left stay, byte for byte
  pub barred_bytes : barred (state_in e.state) e.call ≡ true → (s : State) → e.state ≡ state_bytes s → state_in (state_bytes s) ≡ s → e.state' ≡ e.state
  barred_bytes b s is round = (host_barred b).bytes ∙ ap state_bytes (ap state_in is ∙ round) ∙ sym is

  -- and only then
  pub host_write_10 : (o : ℕ) (bs : List ℕ) → e.call ≡ write o bs → e.returned ≡ 10 → barred (state_in e.state) (write o bs) ≡ true
  host_write_10 o bs is ten =
      write_10 16384 65536 8 1024 18446744073709551615 real_codec (state_in e.state) e.lent o bs
      (ap (λ (x : Call). number (out_of (state_in e.state) e.lent x).answer) (sym is) ∙ sym is_seen.returned ∙ ten)

  pub host_truncate_10 : (n : ℕ) → e.call ≡ truncate n → e.returned ≡ 10 → barred (state_in e.state) (truncate n) ≡ true
  host_truncate_10 n is ten =
      truncate_10 16384 65536 8 1024 18446744073709551615 real_codec (state_in e.state) e.lent n
      (ap (λ (x : Call). number (out_of (state_in e.state) e.lent x).answer) (sym is) ∙ sym is_seen.returned ∙ ten)
