-- The entries beside the atom answer by the rows of document 01's table, for demand 1.
use Rattle.std.specs.Prelude.{Ok, Err}
use mathlib.Core.Path.{◌≡◌, refl, ◌∙◌, sym, ap}
use mathlib.Core.Logic.{inl, inr}
use mathlib.Core.Bool.{Bool, true, false, ◌&&◌}
use mathlib.Core.List.{List, [], ◌∷◌}
use Prim.Native.Nat.{ℕ, zero, suc, ◌+◌, ◌%◌, ◌<◌}
use native.Mathlib.Omega.{arith}
use lib.Dec.{ltb}
use lib.IntN.{ℤ, pos}
use lib.ListN.{length}
use borrow.Author.Tests.{le-ltb, lt-ltb, ltb-true, ltb-false}
use Rattle.types.specs.Answers.{FloatAnswer, HeaderAnswer, IntegerAnswer, VersionAnswer}
use Rattle.types.specs.Choice.{pick}
use Rattle.types.specs.Ways.{exact, up_to}
use Rattle.types.specs.Counters.{place_in}
use Rattle.types.specs.Kinds.{kind_from, special_from}
use Rattle.types.specs.declared.Way.{Way}
use Rattle.types.specs.declared.Kind.{Kind}
use Rattle.types.specs.declared.Budget.{Budget}
use Rattle.types.specs.declared.Refusal.TheVariants as R
use Rattle.types.proofs.Ways.{up_to_within, up_to_filled, up_to_eof}
use Rattle.lent.proofs.Stores.{answer_short, answer_room, content_short, content_room}
use Rattle.header.specs.Header.{header_from, header_kind, header_argument}
use Rattle.header.specs.Signature.{version_from, judged, big_endian}
use Rattle.reader.specs.Strings.{start_of, runs_out}
use Rattle.reader.specs.Raw.{raw_bytes, raw_answer, raw_buffer, raw_exactly, raw_exactly_buffer}
use Rattle.reader.proofs.Delivered.{string_read_lem, string_eof_lem, string_no_room, string_delivered}
use Rattle.little.specs.Le.{number_at}
use Rattle.integer.specs.Integers.{integer_of, integer_from, integer_body}
use Rattle.float.specs.Floats.{float_of, float_from, float_body}
use Rattle.float.proofs.Counts.{allowed_is}
use Rattle.dictionary.specs.Runs.{most_bytes}
use Rattle.report.specs.Reports.{report_of, most_file_bytes}
use Rattle.promises.specs.Told.{Told, told, told_kind, told_special, told_header, told_version, told_integer}
use Rattle.promises.specs.Told.{told_float}
use Rattle.promises.specs.Told.{told_bytes, told_raw, told_written}
use Rattle.promises.specs.Held.{copied}
use Rattle.promises.specs.Rows.{end_of}
use Rattle.promises.specs.Entries.{There, Cut, onward, header_end, raw_count, KindRows, SpecialRows, HeaderRows}
use Rattle.promises.specs.Entries.{SignatureRows, BudgetRows, IntegerRows, FloatRows, StringRows, RawRows}
use Rattle.promises.specs.Entries.{WriterRows, HeldRows, LengthRows}
use Rattle.types.proofs.Counters.{place_same}
use Rattle.types.proofs.Specials.{special_unknown}
use Rattle.promises.proofs.Demand1.{unknown_kind}
use Rattle.promises.proofs.Held.{outside, integer_told_lem, float_told_lem, string_copied, raw_length, raw_place}
use Rattle.promises.proofs.Held.{raw_copied}

-- what is there is taken up to its end, or to the source's
up_there : {X : Type 0} (way : Way) (s : List ℕ) (end : ℕ) (taken : ℕ → X) (eof : X) → There way s end →
    up_to way (length s) end taken eof ≡ taken (place_in (length s) end)
up_there way s end taken eof (inl h) =
    up_to_within way (length s) end taken eof h ∙ ap taken (sym (place_same (length s) end h))
up_there way s end taken eof (inr e) = by (ltb (length s) end) refl
  where
    by : (t : Bool) → ltb (length s) end ≡ t → up_to way (length s) end taken eof ≡ taken (place_in (length s) end)
    by true k =
        let h = ltb-true (length s) end k in
        up_to_filled way (length s) end taken eof h e ∙ ap taken (sym (outside (length s) end h))
    by false k =
        let h = ltb-false (length s) end k in
        up_to_within way (length s) end taken eof h ∙ ap taken (sym (place_same (length s) end h))

up_cut : {X : Type 0} (way : Way) (s : List ℕ) (end : ℕ) (taken : ℕ → X) (eof : X) → Cut way s end →
    up_to way (length s) end taken eof ≡ eof
up_cut way s end taken eof c = up_to_eof way (length s) end taken eof c.0 c.1

kind_known_lem : (n : ℕ) → n < 8 → told_kind (kind_from n) ≡ told 0 (pos n ∷ [])
kind_known_lem zero h = refl
kind_known_lem (suc zero) h = refl
kind_known_lem (suc (suc zero)) h = refl
kind_known_lem (suc (suc (suc zero))) h = refl
kind_known_lem (suc (suc (suc (suc zero)))) h = refl
kind_known_lem (suc (suc (suc (suc (suc zero))))) h = refl
kind_known_lem (suc (suc (suc (suc (suc (suc zero)))))) h = refl
kind_known_lem (suc (suc (suc (suc (suc (suc (suc zero))))))) h = refl
kind_known_lem (suc (suc (suc (suc (suc (suc (suc (suc n)))))))) h = absurd (omega arith)

special_known_lem : (n : ℕ) → n < 7 → told_special (special_from n) ≡ told 0 (pos n ∷ [])
special_known_lem zero h = refl
special_known_lem (suc zero) h = refl
special_known_lem (suc (suc zero)) h = refl
special_known_lem (suc (suc (suc zero))) h = refl
special_known_lem (suc (suc (suc (suc zero)))) h = refl
special_known_lem (suc (suc (suc (suc (suc zero))))) h = refl
special_known_lem (suc (suc (suc (suc (suc (suc zero)))))) h = refl
special_known_lem (suc (suc (suc (suc (suc (suc (suc n))))))) h = absurd (omega arith)

pub kinds : (code : ℕ) → KindRows code
kinds code = record { taken = kind_known_lem code; two = λ h. ap told_kind (unknown_kind code h) }

pub specials : (arg : ℕ) → SpecialRows arg
specials arg = record { taken = special_known_lem arg; three = λ h. ap told_special (special_unknown arg h) }

module _ (way : Way) (s : List ℕ) (place : ℕ) where
  abbrev header_at : ℕ → HeaderAnswer
  header_at p = Ok (record { 0 = p }, header_kind (onward s place), header_argument (onward s place))

  pub headers : HeaderRows way s place
  unfolding header_from
  headers = record {
    taken = λ h. ap told_header (up_there way s (header_end s place) header_at (Err (end_of s, R.Eof)) h);
    four = λ h. ap told_header (up_cut way s (header_end s place) header_at (Err (end_of s, R.Eof)) h);
  }

  abbrev judged_at : ℕ → VersionAnswer
  judged_at p = judged (big_endian (onward s place)) (record { 0 = p })

  abbrev told_by : Bool → Told
  told_by b =
      told_version
      (pick b
      (Ok (record { 0 = place_in (length s) (start_of s place + 4) }, big_endian (onward s place) % 256))
      (Err (record { 0 = place_in (length s) (start_of s place + 4) }, R.IncompatibleVersion)))

  pub signatures : SignatureRows way s place
  unfolding version_from
  signatures = record {
    taken = λ h e. ap told_version (up_there way s (start_of s place + 4) judged_at (Err (end_of s, R.Eof)) h)
        ∙ ap told_by e;
    one = λ h e. ap told_version (up_there way s (start_of s place + 4) judged_at (Err (end_of s, R.Eof)) h)
        ∙ ap told_by e;
    four = λ h. ap told_version (up_cut way s (start_of s place + 4) judged_at (Err (end_of s, R.Eof)) h);
  }

pub budgets : (budget : Budget) (charge : ℕ) → BudgetRows budget charge
budgets budget charge = record {
  taken = λ h. rw (le-ltb budget.0 charge h) refl;
  five = λ h. rw (lt-ltb budget.0 charge h) refl;
}

module _ (way : Way) (s : List ℕ) (place : ℕ) (kind : Kind) (count : ℕ) where
  abbrev integer_at : ℕ → IntegerAnswer
  integer_at p = Ok (record { 0 = p }, integer_of kind count (number_at count s (start_of s place)))

  pub integers : IntegerRows way s place kind count
  unfolding integer_from integer_body
  integers = record {
    seven = λ k. rw k refl;
    six = λ k a. rw (k, a) refl;
    four = λ k a h. rw (k, a)
        (ap told_integer (up_cut way s (start_of s place + count) integer_at (Err (end_of s, R.Eof)) h));
    taken = λ k a h. rw (k, a)
        (ap told_integer (up_there way s (start_of s place + count) integer_at (Err (end_of s, R.Eof)) h)
        ∙ ap (λ (l : List ℤ). told 0 (pos (place_in (length s) (start_of s place + count)) ∷ l))
        (integer_told_lem count a (number_at count s (start_of s place)) kind));
  }

  abbrev float_at : ℕ → FloatAnswer
  float_at p =
      Ok (record { 0 = p }, float_of count (number_at count s (start_of s place)), number_at count s (start_of s place))

  pub floats : FloatRows way s place kind count
  unfolding float_from float_body
  floats = record {
    seven = λ k. rw k refl;
    six = λ k a. rw (k, a) refl;
    four = λ k a h. rw (k, a)
        (ap told_float (up_cut way s (start_of s place + count) float_at (Err (end_of s, R.Eof)) h));
    taken = λ k a h. rw (k, a)
        (ap told_float (up_there way s (start_of s place + count) float_at (Err (end_of s, R.Eof)) h)
        ∙ ap (λ (l : List ℤ). told 0
        (pos (place_in (length s) (start_of s place + count)) ∷ pos (number_at count s (start_of s place)) ∷ l))
        (float_told_lem count (number_at count s (start_of s place)) (allowed_is count a)));
  }

pub strings : (way : Way) (s : List ℕ) (place n : ℕ) (scratch : List ℕ) → StringRows way s place n scratch
strings way s place n scratch = record {
  four = λ h. let e = string_eof_lem way s place n scratch h in (ap told_bytes e.0, e.1);
  nine = λ h r. let e = string_no_room way s place n scratch h r in (ap told_bytes e.0, e.1);
  taken = λ h r. (ap told_bytes (string_read_lem way s place n scratch h r), string_copied way s place n scratch h r);
  delivered = string_delivered way s place n scratch;
}

module _ (way : Way) (s : List ℕ) (place : ℕ) (buffer : List ℕ) where
  raw_there : There way s (start_of s place + length buffer) → (exact way && runs_out s place (length buffer)) ≡ false
  raw_there (inl h) = rw (le-ltb (length s) (start_of s place + length buffer) h) (never (exact way))
    where
      never : (b : Bool) → (b && false) ≡ false
      never true = refl
      never false = refl
  raw_there (inr e) = rw e refl

  raw_any : (told_raw (raw_answer s place buffer)
      ≡ told 0 (pos (place_in (length s) (start_of s place + length buffer)) ∷ pos (raw_count s place buffer) ∷ []))
      × (raw_buffer s place buffer ≡ copied s (start_of s place) (raw_count s place buffer) buffer)
  unfolding raw_answer raw_buffer
  raw_any =
      let p = raw_place s place buffer in
      let n = raw_length s place buffer in (
        ap (λ (x : ℕ). told 0 (pos x ∷ pos (length (raw_bytes s place buffer)) ∷ [])) p
            ∙ ap (λ (x : ℕ). told 0 (pos (place_in (length s) (start_of s place + length buffer)) ∷ pos x ∷ [])) n,
        raw_copied s place buffer,
      )

  pub raws : RawRows way s place buffer
  unfolding raw_exactly raw_exactly_buffer
  raws = record {
    four = λ h. rw (h.1, lt-ltb (length s) (start_of s place + length buffer) h.0) (refl, refl);
    taken = λ h. rw (raw_there h) raw_any;
    any = raw_any;
  }

pub writers : (bytes old : List ℕ) → WriterRows bytes old
writers bytes old = record {
  nine = λ h. (ap told_written (answer_short bytes old h), content_short bytes old h);
  taken = λ h. (ap told_written (answer_room bytes old h), content_room bytes old h);
}

pub helds : (held : Bool) (bytes old : List ℕ) → HeldRows held bytes old
helds held bytes old = record { eight = λ e. rw e (refl, refl); written = λ e. rw e (refl, refl) }

pub lengths : (s : List ℕ) → LengthRows s
unfolding report_of
lengths s = record {
  tally_ten = λ h. rw (lt-ltb most_bytes (length s) h) refl;
  program_ten = λ h. rw (lt-ltb most_file_bytes (length s) h) refl;
}
