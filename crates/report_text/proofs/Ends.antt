-- The end of the function that appends a line: its name, its digits and its end are the line, where the digits that
-- `itoa` writes are those of the definition.
use mathlib.Core.Path.{◌≡◌, ◌∙◌, ap}
use mathlib.Core.List.{List, ◌++◌, append_assoc}
use Prim.Native.Nat.{ℕ}
use native.Mathlib.Omega.{arith}
use borrow.Author.Rules.{rules}
use mir.Syntax.{w64}
use mir.Val.{Fits}
use Rattle.std.specs.Fmt as std
use Rattle.report_text.specs.Texts.{ascii, decimal, line}
use Rattle.report_text.proofs.Decimals.{printed}

-- a part, and then another
follows : {b c : List ℕ} (a x y : List ℕ) → b ≡ a ++ x → c ≡ b ++ y → c ≡ a ++ (x ++ y)
follows {b} {c} a x y e f = f ∙ ap (λ (l : List ℕ). l ++ y) e ∙ append_assoc a x y

-- a line: its name, its number and its end
pub line_appended : (start named numbered text name : List ℕ) (number : ℕ) → text ≡ numbered ++ ascii "\n" →
    numbered ≡ named ++ decimal number → named ≡ start ++ name → text ≡ start ++ line name number
line_appended start named numbered text name number ended last_digits h =
    follows start name _ h (follows named (decimal number) (ascii "\n") last_digits ended)

-- the same of the digits that `itoa` writes
pub line_printed : {named numbered text digits : List ℕ} (start name : List ℕ) (number : ℕ) → Fits w64 number →
    text ≡ numbered ++ ascii "\n" → numbered ≡ named ++ digits → digits ≡ std.decimal number → named ≡ start ++ name →
    text ≡ start ++ line name number
line_printed {named} {numbered} {text} {digits} start name number fits ended numbers written names =
    let spelt : digits ≡ decimal number = written ∙ printed number (omega arith) in
    line_appended start named numbered text name number ended (numbers ∙ ap (λ (l : List ℕ). named ++ l) spelt) names

pub ruleset line_ends = (line_printed, rules)
