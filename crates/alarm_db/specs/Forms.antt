-- The form of the fields of each column.
use Rattle.std.specs.Prelude.{ℕ, ◌==◌, ◌||◌, ◌&&◌, not, nat_le, List, [], ◌∷◌, Bool, true, false, length, codes}
use Rattle.std.specs.List.{list_all}
use Rattle.std.specs.Str.{bytes_eq, is_utf8}
use Rattle.std.specs.Str.Parse.{digits_value}
use Rattle.std.specs.Char.{is_ascii_digit}
use Rattle.plant_types.specs.Words.{is_name, same_word, is_tag}
use Rattle.alarm_db.specs.declared.column.Column.{Column}
use Rattle.alarm_db.specs.declared.column.Column.TheVariants as column

-- whether a field is 1 to `most` decimal digits
abbrev pub has_digits : ℕ → List ℕ → Bool
has_digits most field = nat_le 1 (length field) && nat_le (length field) most && list_all is_ascii_digit field

-- whether a field is a priority: one digit, 1 to 4
abbrev pub is_priority : List ℕ → Bool
is_priority field = has_digits 1 field && nat_le 1 (digits_value 10 field) && nat_le (digits_value 10 field) 4

-- whether a field is empty
abbrev pub is_empty : List ℕ → Bool
is_empty [] = true
is_empty (b ∷ bs) = false

-- whether a field says that an alarm latches: TRUE in any letter case, or 1
abbrev pub latches : List ℕ → Bool
latches field = same_word field (codes "true") || bytes_eq field (codes "1")

-- whether a field says that an alarm doesn't latch: FALSE in any letter case, or 0
abbrev pub latches_not : List ℕ → Bool
latches_not field = same_word field (codes "false") || bytes_eq field (codes "0")

-- whether a field is a time for shelving: 1 to 10 digits, at most 30 days in milliseconds
abbrev pub is_shelve_time : List ℕ → Bool
is_shelve_time field = has_digits 10 field && nat_le (digits_value 10 field) 2592000000

-- whether a field is an on-delay: 1 to 10 digits, at most a day in milliseconds
abbrev pub is_delay : List ℕ → Bool
is_delay field = has_digits 10 field && nat_le (digits_value 10 field) 86400000

-- whether a text may have a byte: no control character of ASCII
abbrev pub is_text_byte : ℕ → Bool
is_text_byte b = nat_le 32 b && not (b == 127)

-- whether a field is a text for operators: at most 200 bytes of UTF-8, all of them such bytes
abbrev pub is_text : List ℕ → Bool
is_text field = nat_le (length field) 200 && list_all is_text_byte field && is_utf8 field

-- whether a field has its column's form
abbrev pub has_form : Column → List ℕ → Bool
has_form column.Tag field = is_tag field
has_form column.Area field = is_tag field
has_form column.Priority field = is_priority field
has_form column.Condition field = is_name field
has_form column.Suppress field = is_empty field || is_name field
has_form column.Latch field = latches field || latches_not field
has_form column.MaxShelveMs field = is_shelve_time field
has_form column.OnDelayMs field = is_delay field
has_form column.Text field = is_text field
