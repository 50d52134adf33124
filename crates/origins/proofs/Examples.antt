-- Worked examples of the definitions, which antt computes: the field of an origin, the end of a line, and the sentences. Assumes nothing.
use mathlib.Core.Path.{◌≡◌, refl}
use mathlib.Core.List.{[]}
use Prim.Native.Nat.{◌+◌, ◌*◌}
use Rattle.text.specs.Letters.{bytes}
use Rattle.text.specs.Reading.{is, bad, then, ended, digit_of, run, value, spelt, decimal}
use Rattle.text.specs.Digits.{digits_by, digits}
use Rattle.text.specs.Writing.{byte_of, in_decimal}
use Rattle.origins.specs.Fields.{after_at, origin, line_end, origin_text}
use Rattle.origins.specs.Words.{origin_unit, first_kept}
use Rattle.origins.specs.Standing.{told, standing_from, standing}

-- ---- fields that read: an origin is the number plus one

field_12 : ended 10 (origin (bytes "@12\n")) ≡ is 13 []
unfolding ended origin after_at then decimal spelt run value digit_of
field_12 = refl

field_none : ended 10 (origin (bytes "@-\n")) ≡ is 0 []
unfolding ended origin after_at
field_none = refl

field_0 : ended 10 (origin (bytes "@0\n")) ≡ is 1 []
unfolding ended origin after_at then decimal spelt run value digit_of
field_0 = refl

field_1023 : ended 10 (origin (bytes "@1023\n")) ≡ is 1024 []
unfolding ended origin after_at then decimal spelt run value digit_of
field_1023 = refl

-- ---- the end of a line after a last field that read as 7: what stood there stays

end_none : line_end (is 7 (bytes "\n")) ≡ is 7 []
unfolding line_end
end_none = refl

end_12 : line_end (is 7 (bytes "\t@12\n")) ≡ is 7 []
unfolding line_end ended origin after_at then decimal spelt run value digit_of
end_12 = refl

end_minus : line_end (is 7 (bytes "\t@-\n")) ≡ is 7 []
unfolding line_end ended origin after_at then
end_minus = refl

end_0 : line_end (is 7 (bytes "\t@0\n")) ≡ is 7 []
unfolding line_end ended origin after_at then decimal spelt run value digit_of
end_0 = refl

-- ---- and what is malformed there

end_of_text : line_end (is 7 []) ≡ bad
unfolding line_end
end_of_text = refl

tab_alone : line_end (is 7 (bytes "\t\n")) ≡ bad
unfolding line_end ended origin then
tab_alone = refl

at_alone : line_end (is 7 (bytes "\t@\n")) ≡ bad
unfolding line_end ended origin after_at then decimal spelt run value digit_of
at_alone = refl

leading_zero : line_end (is 7 (bytes "\t@01\n")) ≡ bad
unfolding line_end ended origin after_at then decimal spelt run value digit_of
leading_zero = refl

too_high : line_end (is 7 (bytes "\t@1024\n")) ≡ bad
unfolding line_end ended origin after_at then decimal spelt run value digit_of
too_high = refl

no_number : line_end (is 7 (bytes "\t@x\n")) ≡ bad
unfolding line_end ended origin after_at then decimal spelt run value digit_of
no_number = refl

space_before : line_end (is 7 (bytes "\t@ 1\n")) ≡ bad
unfolding line_end ended origin after_at then decimal spelt run value digit_of
space_before = refl

negative : line_end (is 7 (bytes "\t@-1\n")) ≡ bad
unfolding line_end ended origin after_at then
negative = refl

two_fields : line_end (is 7 (bytes "\t@1\t@2\n")) ≡ bad
unfolding line_end ended origin after_at then decimal spelt run value digit_of
two_fields = refl

unended : line_end (is 7 (bytes "\t@1")) ≡ bad
unfolding line_end ended origin after_at then decimal spelt run value digit_of
unended = refl

-- ---- fields as they are written

written_12 : origin_text 13 ≡ bytes "@12"
unfolding origin_text in_decimal digits digits_by byte_of
written_12 = refl

written_none : origin_text 0 ≡ bytes "@-"
unfolding origin_text
written_none = refl

-- ---- words

marked_first : first_kept 5 12 ≡ 5 + 13 * origin_unit
marked_first = refl

kept_first : first_kept (first_kept 5 12) 30 ≡ first_kept 5 12
kept_first = refl

-- ---- sentences: one for each line with a number, none for `@-` and none for a line without the field

said : standing (bytes "v\t0\t@2\np\nv\t1\t@-\np\t@0\n") ≡ bytes "line 2 of the job stands at line 0 of the result\nline 0 of the job stands at line 3 of the result\n"
unfolding standing_from told then decimal spelt run value digit_of in_decimal digits digits_by byte_of
said = refl
