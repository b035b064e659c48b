-- Inputs whose tree has the number that no row shows, or another; listings that show the same.
use Rattle.sf_list.proofs.Common.{◌≡◌, ◌≢◌, ◌∙◌, ℕ, ◌==◌, List, ◌++◌, ap, ap₂, sym, if◌then◌else◌, None, cond-false, cond-true, eq-eqb, ne_eqb, Tree, filters_line, NamesData, rows_of, ShownData, lines_of_rows, Listed, digest_line, listing_text, listing_title, rows_total_line}
use Rattle.sf_rows.specs.declared.subject.Subject.TheVariants as subject

pub one-where-shown : (v hidden : ℕ) → v ≢ hidden → ◌≡◌ {A = ℕ} (if v == hidden then 0 else 1) 1
one-where-shown v hidden other = cond-false (v == hidden) 0 1 (ne_eqb v hidden other)

pub none-where-hidden : (v hidden : ℕ) → v ≡ hidden → ◌≡◌ {A = ℕ} (if v == hidden then 0 else 1) 0
none-where-hidden v hidden same = cond-true (v == hidden) 0 1 (eq-eqb v hidden same)

-- the text of listings, by the line with the size of the stack
text_with : List NamesData → ShownData → List ℕ → List ℕ
text_with sets shown size = listing_title shown.calls ++ (size ++ (lines_of_rows subject.Stack sets shown
    ++ rows_total_line shown))

pub told-alike : (sets : List NamesData) (k l : Listed) → filters_line k.programs ≡ filters_line l.programs
    → k.shown ≡ l.shown → listing_text sets k ≡ listing_text sets l
unfolding text_with
told-alike sets k l size shown = ap₂ (text_with sets) shown size

-- the digest's line of listings, by the rows
pub digested-alike : (k l : Listed) (s t : Tree)
    → k.shown ≡ record { calls = None; rows = rows_of subject.Stack s }
    → l.shown ≡ record { calls = None; rows = rows_of subject.Stack t }
    → s ≡ t → digest_line k ≡ digest_line l
digested-alike k l s t before after one =
    let same : k.shown ≡ l.shown = before ∙ ap (λ (u : Tree). let x : ShownData = record {
      calls = None;
      rows = rows_of subject.Stack u;
    } in x) one ∙ sym after in
    let line_of = λ (x : ShownData). digest_line (record { programs = k.programs; shown = x }) in
    ap line_of same
