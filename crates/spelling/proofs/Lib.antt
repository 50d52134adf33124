-- The proofs of this crate need no laws of their own: each stands with its function. OneAnswer says what the contracts determine.
pub mod OneAnswer
