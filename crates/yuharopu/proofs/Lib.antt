pub mod ClosureLaws
