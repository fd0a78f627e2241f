-- The heads of sections.
use Rattle.std.specs.Prelude.{ℕ, ◌+◌, ◌==◌, nat_lt, Bool, true, false, List, [], ◌∷◌, ◌++◌, codes, if◌then◌else◌}
use Rattle.cw_base.specs.Bytes.{byte_of}
use Rattle.cw_rules.specs.Bytes.{digit_0}
use Rattle.cw_phase1.specs.declared.sections.Depth.{Depth}
use Rattle.cw_phase1.specs.declared.sections.Depth.TheVariants.{Minus, Zero, Digits}
use Rattle.cw_phase1.specs.declared.sections.Section.{Section}
use Rattle.cw_print.specs.Walk.{section_number}
use Rattle.cw_press.specs.Inks.{bytes_of}

-- The depth in digits, without zeros before the last of them or before another digit.
abbrev pub drop_zeros : List ℕ → List ℕ
drop_zeros [] = codes "0"
drop_zeros (digit ∷ []) = digit ∷ []
drop_zeros (digit ∷ next ∷ digits) =
    if digit == digit_0 then drop_zeros (next ∷ digits) else digit ∷ next ∷ digits

abbrev pub depth_bytes : List ℕ → Depth → List ℕ
depth_bytes text Minus = codes "-1"
depth_bytes text Zero = codes "0"
depth_bytes text (Digits span) = drop_zeros (bytes_of text span)

-- ## Depths that count from 0

-- digits to which one was added, and whether one is carried over them
pub record Added : Type 0 where
  pub carried : Bool
  pub digits : List ℕ

-- behind a digit to which one is carried: a nine is a zero then, and carries it on
abbrev pub carry_to : ℕ → List ℕ → Added
carry_to digit digits =
    if nat_lt digit (byte_of "9") then record { carried = false; digits = (digit + 1) ∷ digits }
    else record { carried = true; digits = digit_0 ∷ digits }

abbrev pub add_behind : ℕ → Added → Added
add_behind digit rest =
    if rest.carried then carry_to digit rest.digits else record { carried = false; digits = digit ∷ rest.digits }

abbrev pub with_one : List ℕ → Added
with_one [] = record { carried = true; digits = [] }
with_one (digit ∷ digits) = add_behind digit (with_one digits)

abbrev pub one_if_carried : Added → List ℕ
one_if_carried added = if added.carried then byte_of "1" ∷ added.digits else added.digits

-- the digits of a number that is one higher
abbrev pub successor : List ℕ → List ℕ
successor digits = one_if_carried (with_one digits)

-- The macros count `@**` as 0, and every other depth as one more than stands in the web.
abbrev pub raised_depth : List ℕ → Depth → List ℕ
raised_depth text Minus = codes "0"
raised_depth text Zero = codes "1"
raised_depth text (Digits span) = successor (drop_zeros (bytes_of text span))

-- with flag r depths are as the macros count them
abbrev pub printed_depth : Bool → List ℕ → Depth → List ℕ
printed_depth ranged text depth = if ranged then raised_depth text depth else depth_bytes text depth

-- ## Heads

-- The head: `\M{n}`, or `\N{depth}{n}` where the section is starred.
abbrev pub head_by : Bool → List ℕ → List ℕ → List ℕ
head_by starred depth number =
    if starred then codes "\\N{" ++ depth ++ codes "}{" ++ number ++ codes "}" else codes "\\M{" ++ number ++ codes "}"

abbrev pub head : Bool → List ℕ → ℕ → Section → List ℕ
head ranged text n section =
    head_by section.starred (printed_depth ranged text section.depth) (section_number n section.changed)
