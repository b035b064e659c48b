-- The rows of a tree: what the inputs are that get a number.
use Rattle.std.specs.Prelude.{ℕ, zero, suc, ◌/◌, ◌<◌, ◌==◌, ◌⊎◌, Bool, List, [], ◌∷◌, ◌++◌, if◌then◌else◌}
use Rattle.std.specs.List.{flat_map, list_all}
use Rattle.sf_diagram.specs.Trees.{Tree, Leaf, Fork, Bits}
use Rattle.sf_parts.specs.Words.{word_number, test_count}
use Rattle.sf_parts.specs.Parts.{FormData, form_has, parts_in}

-- the number of a word is one of those that are written so
pub record ConditionData : Type 0 where
  pub word : ℕ
  pub form : FormData

-- the inputs that meet the conditions get this number
pub record RowData : Type 0 where
  pub conditions : List ConditionData
  pub number : ℕ

abbrev pub meets : Bits → ConditionData → Bool
meets bits c = form_has c.form (word_number c.word bits)

-- whether an input is one of a row
abbrev pub is_in_row : Bits → RowData → Bool
is_in_row bits r = list_all (meets bits) r.conditions

-- The rows of a tree that tests at most the next n words, from this one on, under conditions on earlier words. The runs
-- of the word `apart` are not joined, and what gets the number `hidden` is left out.
unfoldable pub rows_under : ℕ → ℕ → ℕ → ℕ → Tree → List ConditionData → List RowData
rows_under apart hidden n word (Leaf number) conditions =
    if number == hidden then [] else record { conditions = conditions; number = number } ∷ []
rows_under apart hidden zero word (Fork variable lower higher) conditions = []
rows_under apart hidden (suc n) word (Fork variable lower higher) conditions =
    if variable / 32 == word
    then flat_map
    (λ p. rows_under apart hidden n (suc word) p.behind (conditions ++ record { word = word; form = p.form } ∷ []))
    (parts_in word (word == apart) (Fork variable lower higher))
    else rows_under apart hidden n (suc word) (Fork variable lower higher) conditions

-- some word is tested more often than a limit, counted along each way from one of its tests on
abbrev pub IsCrowded : ℕ → Tree → Type 0
IsCrowded limit (Leaf number) = ⊥
IsCrowded limit (Fork variable lower higher) =
    (limit < test_count (variable / 32) (Fork variable lower higher))
    ⊎ (IsCrowded limit lower ⊎ IsCrowded limit higher)
