-- The lines that document 01 prints of its example are the text of the numbers that they hold, to the byte, and so are
-- those of a refused file.
use Rattle.std.specs.Prelude.{Ok, Err}
use mathlib.Core.Path.{◌≡◌, refl}
use Rattle.types.specs.declared.Refusal.TheVariants as R
use Rattle.report_text.specs.Texts.{ascii, digits_from, tally_text, counted_text, refused_text, report_text}

pub example_lines : report_text
    (Ok (1, 15, record { atoms = 5; body = record { 0 = 10 }; charge = 11; letters = 2 }))
    ≡ ascii "ok=1\nversion=1\nbytes=15\natoms=5\nbody=10\ncharge=11\nletters=2\n"
unfolding counted_text tally_text digits_from
example_lines = refl

pub refused_lines : report_text (Err (R.TooLong, record { 0 = 65_528 })) ≡ ascii "ok=0\nrefusal=10\nat=65528\n"
unfolding refused_text digits_from
refused_lines = refl
