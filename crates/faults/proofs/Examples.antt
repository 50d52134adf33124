-- Worked examples of the definitions, which antt computes: a text for each fault, in its line 1. Assumes nothing.
use mathlib.Core.Path.{◌≡◌, refl}
use mathlib.Core.List.{[], ◌∷◌, map}
use Rattle.text.specs.Letters.{bytes}
use Rattle.text.specs.Reading.{then, ended, digit_of, run, value, spelt, decimal, hex_from, hex, starts, name_from}
use Rattle.origins.specs.Fields.{after_at, origin}
use Rattle.faults.specs.declared.Fault.{Fault}
use Rattle.faults.specs.Faulting.{words_of, read, node_form, has_at, form_with, listing_form, sheet_form, told, base_of, no_digit, field_fault, stop_of, or_else, fault_in, line_fault, after_line, from_line, listing_fault, sheet_fault}

-- lines that end in CR LF; lower-case hex; no LF at the end; a line cut short, between fields and in one; a child that is no earlier line, and an s
-- line that names one; a leading zero, a letter that begins no line, and a tab too many; no such line
listing_faults : map (λ text. listing_fault text 1)
    (bytes "v\t0\nu\t-\t0\r\n"
    ∷ bytes "v\t0\nn\t3ff0000000000000\t0000000000000000\n"
    ∷ bytes "v\t0\nu\t-\t0"
    ∷ bytes "v\t0\nb\t-\t0\n"
    ∷ bytes "v\t0\nn\t3FF0"
    ∷ bytes "v\t0\nb\t-\t0\t2\n"
    ∷ bytes "v\t0\ns\t7\t9\n"
    ∷ bytes "v\t0\nv\t00\n"
    ∷ bytes "v\t0\nx\n"
    ∷ bytes "v\t0\np\t\n"
    ∷ bytes "v\t0\n"
    ∷ [])
    ≡ Fault.CarriageReturn
    ∷ Fault.HexCase
    ∷ Fault.NoLineFeed
    ∷ Fault.FieldMissing
    ∷ Fault.FieldMissing
    ∷ Fault.Order
    ∷ Fault.Order
    ∷ Fault.WrongByte
    ∷ Fault.WrongByte
    ∷ Fault.WrongByte
    ∷ Fault.NoLine
    ∷ []
unfolding listing_fault line_fault from_line after_line node_form has_at form_with listing_form fault_in or_else stop_of read words_of name_from starts ended hex hex_from digit_of decimal spelt run value told field_fault base_of no_digit
listing_faults = refl

-- the field of an origin at the end of a node line: with its LF missing; with a leading zero, too large, cut short, with another after it, before a child,
-- and at the end of an s line; of a line that has no other fault than its place
origin_faults : map (λ text. listing_fault text 1)
    (bytes "v\t0\nu\t-\t0\t@5"
    ∷ bytes "v\t0\np\t@05\n"
    ∷ bytes "v\t0\np\t@1024\n"
    ∷ bytes "v\t0\np\t@\n"
    ∷ bytes "v\t0\np\t@5\t@5\n"
    ∷ bytes "v\t0\nb\t-\t0\t@5\n"
    ∷ bytes "v\t0\ns\t7\t0\t@5\n"
    ∷ bytes "v\t0\np\t@5\r\n"
    ∷ bytes "v\t0\nu\t-\t9\t@-\n"
    ∷ [])
    ≡ Fault.NoLineFeed
    ∷ Fault.WrongByte
    ∷ Fault.WrongByte
    ∷ Fault.WrongByte
    ∷ Fault.WrongByte
    ∷ Fault.WrongByte
    ∷ Fault.WrongByte
    ∷ Fault.CarriageReturn
    ∷ Fault.Order
    ∷ []
unfolding listing_fault line_fault from_line after_line node_form has_at form_with listing_form fault_in or_else stop_of read words_of origin after_at then name_from starts ended decimal spelt run value digit_of told field_fault base_of no_digit
origin_faults = refl

-- a row that is not above the last; CR LF; a second operand that is not zeros, where it has to be, and where the name is pow; one cut short
sheet_faults : map (λ text. sheet_fault text 1)
    (bytes "m\t1\t0\t3FF0000000000000\nm\t1\t0\t3FF0000000000000\n"
    ∷ bytes "m\t1\t0\t3FF0000000000000\r\nm\t1\t1\t3FF0000000000000\r\n"
    ∷ bytes "\nt\tsin\t3FF0000000000000\t0000000000000000\t0000000000000000\t8000000000000000\t0000000000000000\t0000000000000000\n"
    ∷ bytes "\nt\tpow\t3FF0000000000000\t0000000000000000\t3FF0000000000000\t8000000000000000\t0000000000000000\t0000000000000000\n"
    ∷ bytes "\nt\tsin\t3FF0000000000000\t0000000000000000\t00000000"
    ∷ [])
    ≡ Fault.Order
    ∷ Fault.CarriageReturn
    ∷ Fault.WrongByte
    ∷ Fault.Order
    ∷ Fault.FieldMissing
    ∷ []
unfolding sheet_fault line_fault from_line after_line sheet_form fault_in or_else stop_of read words_of name_from starts ended hex hex_from digit_of decimal spelt run value told field_fault base_of no_digit
sheet_faults = refl
