-- The slice that is handed back as the sheet's part of a job. Only connecting.
use Rattle.std.specs.Prelude.{◌≡◌, ℕ, ◌+◌, min, List, length, drop}
use Rattle.std.specs.Borrow.{Bor}

-- the sheet's part of what follows on a listing: all but the first byte, and where it stands, which is one byte on
pub record SheetPart (rest r : Bor (List ℕ)) : Type 0 where
  pub bytes : r.now ≡ drop 1 rest.now
  pub block : r.ref_ptr.0 ≡ rest.ref_ptr.0
  pub place : r.ref_ptr.1 ≡ rest.ref_ptr.1 + min 1 (length rest.now)
