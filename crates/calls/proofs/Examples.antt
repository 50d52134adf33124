-- 01's "Proved examples" on the public call: a table of listings and of what is written for them, and one statement over it, by computing the
-- definitions; and three more examples on bytes, of pi and of a substituted -0. Assumes nothing.
use mathlib.Core.Path.{◌≡◌, refl, ap, ◌∙◌}
use mathlib.Core.Bool.{false, cond}
use mathlib.Core.List.{List, [], ◌∷◌, ◌++◌, map}
use Prim.Native.Nat.{ℕ, ◌≤◌, ◌^◌}
use Prim.Native.String.{String}
use borrow.Author.Tests.{le-ltb}
use lib.Dec.{ltb}
use lib.ListN.{length, drop, get_or}
use lib.Ieee.{binary64, round, of_bits}
use Rattle.std.specs.Prelude.{Result, Ok, Err}
use Rattle.complex.specs.Bits.{double_of}
use Rattle.expression.specs.declared.refusal.Refusal.{Refusal}
use Rattle.expression.specs.Codes.{numbered}
use Rattle.store.specs.Storing.{place}
use Rattle.text.specs.Reading.{then, ended, digit_of, run, value, spelt, decimal, hex_from, hex, starts, name_from}
use Rattle.text.specs.Letters.{bytes}
use Rattle.text.specs.Lines.{after_line, at_line, lines_by, lines, none, above_last}
use Rattle.text.specs.Digits.{digits, digits_by}
use Rattle.text.specs.Writing.{byte_of, in_decimal, last_hex, in_hex, line}
use Rattle.node_lines.specs.NodeLines.{child_by, number_fields, variable_fields, prefix_fields, infix_fields, fields_of, pi_line, line_by}
use Rattle.origins.specs.Fields.{line_end}
use Rattle.listing.specs.Listings.{stored, formed, node_line, swap_fields, swapped, swap_line, listing_line, last, rooted, whole, listing, swap_for}
use Rattle.sheet.specs.Rows.{sheet}
use Rattle.substitution.specs.Substituting.{put_in, put_in_leaf, substitute}
use Rattle.tasks.specs.Tasks.{is_allowed}
use Rattle.simplification.proofs.Computing.{computed}
use Rattle.writing.specs.Order.{once, finished, leaf_fields, line_fields, text, written}
use Rattle.calls.specs.declared.Simplified.{Simplified}
use Rattle.calls.specs.Calls.{after_listing, with_sheet, job, written_answer, with_calls, calls_in, substitute_call, simplify_job, simplify_call}

-- ---- the table

-- a listing and a limit; the listing that is written, and the number of simplify calls
pub record Example : Type 0 where
  pub list : List ℕ
  pub limit : ℕ
  pub result : List ℕ
  pub calls : ℕ

abbrev pub example : (list : String) (limit : ℕ) (result : String) (calls : ℕ) → Example
example list limit result calls = record { list = bytes list; limit = limit; result = bytes result; calls = calls }

-- "One table, one statement, limit 10 unless said; a, b, x are variables": those of the numbers 0, 1, 2
abbrev pub table : List Example
table =
    -- pi at limit 0: its number
    example "p\n" 0
    "n\t400921FB54442D18\t0000000000000000\n" 1 ∷
    -- 0^0: 0
    example "n\t0000000000000000\t0000000000000000\nb\t^\t0\t0\n" 10
    "n\t0000000000000000\t0000000000000000\n" 3 ∷
    -- 0/0: 0
    example "n\t0000000000000000\t0000000000000000\nb\t/\t0\t0\n" 10
    "n\t0000000000000000\t0000000000000000\n" 3 ∷
    -- 2/0: NaN
    example "n\t4000000000000000\t0000000000000000\nn\t0000000000000000\t0000000000000000\nb\t/\t0\t1\n" 10
    "n\t7FF8000000000000\t0000000000000000\n" 3 ∷
    -- 1e-11+a: a
    example "n\t3DA5FD7FE1796495\t0000000000000000\nv\t0\nb\t+\t0\t1\n" 10
    "v\t0\n" 3 ∷
    -- T+a: unchanged
    example "n\t3DDB7CDFD9D7BDBB\t0000000000000000\nv\t0\nb\t+\t0\t1\n" 10
    "n\t3DDB7CDFD9D7BDBB\t0000000000000000\nv\t0\nb\t+\t0\t1\n" 3 ∷
    -- a-a: 0, 3 calls
    example "v\t0\nb\t-\t0\t0\n" 10
    "n\t0000000000000000\t0000000000000000\n" 3 ∷
    -- 0-a: -a, 5 calls
    example "n\t0000000000000000\t0000000000000000\nv\t0\nb\t-\t0\t1\n" 10
    "v\t0\nu\t-\t0\n" 5 ∷
    -- -(-a): a, 3 calls
    example "v\t0\nu\t-\t0\nu\t-\t1\n" 10
    "v\t0\n" 3 ∷
    -- (a-b)-b: a
    example "v\t0\nv\t1\nb\t-\t0\t1\nb\t-\t2\t1\n" 10
    "v\t0\n" 11 ∷
    -- a*x+b*x: (a+b)*x
    example "v\t0\nv\t2\nb\t*\t0\t1\nv\t1\nb\t*\t3\t1\nb\t+\t2\t4\n" 10
    "v\t0\nv\t1\nb\t+\t0\t1\nv\t2\nb\t*\t2\t3\n" 29 ∷
    -- (x+a)+(x+b): 2*x+(a+b)
    example "v\t2\nv\t0\nb\t+\t0\t1\nv\t1\nb\t+\t0\t3\nb\t+\t2\t4\n" 10
    "n\t4000000000000000\t0000000000000000\nv\t2\nb\t*\t0\t1\nv\t0\nv\t1\nb\t+\t3\t4\nb\t+\t2\t5\n" 32 ∷
    []

-- "Invariant: Never returns [`Expression::PiConstant`].", a comment of the Rust, does not hold of 01's rules: where the limit ends above an inner -, what
-- is stripped off is pi itself. At limit 10 that takes an expression of depth 12; up to depth 11 no pi stays (simplification/proofs/Pi.antt)
abbrev pub pi_table : List Example
pi_table =
    example "p\nu\t-\t0\nu\t-\t1\n" 1
    "p\n" 2 ∷
    example "p\nu\t-\t0\nu\t-\t1\nu\t+\t2\nu\t+\t3\nu\t+\t4\nu\t+\t5\nu\t+\t6\nu\t+\t7\nu\t+\t8\nu\t+\t9\nu\t+\t10\n" 10
    "p\n" 11 ∷
    []

-- 1e-11 is the double nearest 1 / 10 ^ 11 (T: complex/proofs/Examples.antt, `t_nearest`)
small_nearest : round binary64 false 1 (10 ^ 11) ≡ double_of 0x3DA5_FD7F_E179_6495
unfolding round of_bits
small_nearest = refl

-- ---- the statement

-- a call with a store of 4096 and an empty sheet, whose output has room for the result: the answer is the result's length and the number of calls,
-- and the result stands at the start of the output, which keeps the rest
abbrev pub Shown : Example → Type 0
Shown e =
    (out : List ℕ) → length e.result ≤ length out
    → simplify_call 4096 e.limit e.list [] out ≡ (Ok (record { bytes = length e.result; calls = e.calls }), e.result ++ drop (length e.result) out)

abbrev pub Each : (Example → Type 0) → List Example → Type 0
Each P [] = Unit {0}
Each P (e ∷ es) = P e × Each P es

-- ---- computed

asked : Example → List ℕ → Result Simplified Refusal × List ℕ
asked e out = simplify_call 4096 e.limit e.list [] out

-- 13 where there is no room
writing : List ℕ → (out : List ℕ) → Result ℕ Refusal × List ℕ
writing result out =
    cond (ltb (length out) (length result)) (Err Refusal.OutRoom, out)
    (Ok (length result), result ++ drop (length result) out)

wanted : Example → List ℕ → Result Simplified Refusal × List ℕ
wanted e out = (with_calls e.calls (writing e.result out).0, (writing e.result out).1)

-- the listing read, simplified from the store that reading leaves, and written
computes : map asked table ≡ map wanted table
unfolding asked wanted writing simplify_call is_allowed job after_listing with_sheet sheet simplify_job calls_in written_answer listing whole rooted last listing_line node_line formed stored none lines lines_by at_line after_line line_by pi_line line_end fields_of number_fields variable_fields prefix_fields infix_fields child_by then ended decimal spelt run value digit_of hex hex_from starts name_from numbered computed written text line line_fields leaf_fields finished once place in_decimal digits digits_by byte_of in_hex last_hex
computes = refl

with_room : (e : Example) (out : List ℕ) → length e.result ≤ length out
    → wanted e out ≡ (Ok (record { bytes = length e.result; calls = e.calls }), e.result ++ drop (length e.result) out)
unfolding wanted writing with_calls
with_room e out room = rw (le-ltb (length out) (length e.result) room)

each : (es : List Example) → map asked es ≡ map wanted es → Each Shown es
unfolding asked
each [] p = tt
each (e ∷ es) p = (λ out room. ap (λ answers. get_or answers 0 (asked e) out) p ∙ with_room e out room, each es (ap (drop 1) p))

pub proved_examples : Each Shown table
proved_examples = each table computes

pi_computes : map asked pi_table ≡ map wanted pi_table
unfolding asked wanted writing simplify_call is_allowed job after_listing with_sheet sheet simplify_job calls_in written_answer listing whole rooted last listing_line node_line formed stored none lines lines_by at_line after_line line_by pi_line line_end fields_of prefix_fields child_by then ended decimal spelt run value digit_of starts name_from numbered computed written text line line_fields leaf_fields finished once
pi_computes = refl

pub pi_comes_back : Each Shown pi_table
pi_comes_back = each pi_table pi_computes

-- ---- "Sharing nodes whose zeros differ in sign: a substituted -0 would lose its sign"

-- 0+a with -0 for a, in a listing that has both zeros
abbrev pub zeros : List ℕ
zeros = bytes "n\t0000000000000000\t0000000000000000\nn\t8000000000000000\t0000000000000000\nv\t0\nb\t+\t0\t2\ns\t0\t1\n"

abbrev pub zeros_kept : List ℕ
zeros_kept = bytes "n\t0000000000000000\t0000000000000000\nn\t8000000000000000\t0000000000000000\nb\t+\t0\t1\n"

zeros_compute : ◌≡◌ {A = List ℕ → Result ℕ Refusal × List ℕ} (λ out. substitute_call 4096 zeros out) (λ out. writing zeros_kept out)
unfolding writing substitute_call after_listing written_answer listing whole rooted last listing_line node_line swap_line swap_fields swapped above_last formed stored none lines lines_by at_line after_line line_by pi_line line_end fields_of number_fields variable_fields infix_fields child_by then ended decimal spelt run value digit_of hex hex_from starts name_from numbered computed substitute put_in_leaf put_in swap_for written text line line_fields leaf_fields finished once place in_decimal digits digits_by byte_of in_hex last_hex
zeros_compute = refl

pub minus_zero_stays : (out : List ℕ) → length zeros_kept ≤ length out
    → substitute_call 4096 zeros out ≡ (Ok (length zeros_kept), zeros_kept ++ drop (length zeros_kept) out)
unfolding writing
minus_zero_stays out room = ap (λ answer. answer out) zeros_compute ∙ (rw (le-ltb (length out) (length zeros_kept) room) refl)
