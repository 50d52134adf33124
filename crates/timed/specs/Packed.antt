-- Answers as numbers of 64 bits. Definitions only.
--   bits 58 to 62: the number of a refusal, up to 31; 0 where the answer is none
--   bits 0 to 15: the line or step that a refusal carries
--   bits 0 to 11 and 12 to 24: a node, and the count of nodes
--   bits 0 to 24: a count of bytes
--   bits 25 to 35, 36 to 46 and 47 to 57: the counts of variables, cells and function values
--   bits 25 to 56: the number of simplify calls
use Rattle.std.specs.Prelude.{ℕ, ◌+◌, ◌*◌, ◌%◌, List, Result, Ok, Err}
use Rattle.expression.specs.declared.refusal.Refusal.{Refusal}
use Rattle.expression.specs.Refusals.{number_of, place_of}
use Rattle.store.specs.declared.desk.Refused.{Refused}
use Rattle.store.specs.Desk.{count, calls_on, refusal_on}
use Rattle.listing.specs.declared.Listed.{Listed}
use Rattle.sheet.specs.declared.Counts.{Counts}

-- ---- the parts

-- 2^58
abbrev pub refused_of : Refusal → ℕ
refused_of why = 288230376151711744 * (number_of why % 32) + place_of why % 65536

abbrev pub node_of : (at nodes : ℕ) → ℕ
node_of at nodes = at % 4096 + 4096 * (nodes % 8192)

abbrev pub bytes_of : ℕ → ℕ
bytes_of bytes = bytes % 33554432

-- 2^25, 2^36 and 2^47
abbrev pub counts_of : Counts → ℕ
counts_of rows = 33554432 * (rows.variables % 2048) + 68719476736 * (rows.cells % 2048) + 140737488355328 * (rows.functions % 2048)

abbrev pub calls_of : ℕ → ℕ
calls_of calls = 33554432 * (calls % 4294967296)

-- ---- answers that are one number; the count of nodes and the number of calls stand on the desk

unfoldable pub built_of : (desk : List ℕ) (built : Result ℕ Refused) → ℕ
built_of desk (Ok node) = node_of node (count desk) + calls_of (calls_on desk)
built_of desk (Err e) = refused_of (refusal_on desk)

abbrev pub listing_of : (desk : List ℕ) → Result Listed Refusal → ℕ
listing_of desk (Ok a) = node_of a.root (count desk)
listing_of desk (Err why) = refused_of why

abbrev pub sheet_of : Result Counts Refusal → ℕ
sheet_of (Ok rows) = counts_of rows
sheet_of (Err why) = refused_of why

abbrev pub written_of : Result ℕ Refusal → ℕ
written_of (Ok bytes) = bytes_of bytes
written_of (Err why) = refused_of why
