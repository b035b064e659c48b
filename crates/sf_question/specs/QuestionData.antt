-- What a question asks.
use Rattle.std.specs.Prelude.{ℕ, ◌==◌, ◌&&◌, Bool, List, replicate, slice_index_or}
use Rattle.sf_question.specs.declared.actions.ActionSet.{ActionSet}

-- A question: the bytes of its name; for each of the sixteen words a range (low, high) and a pair (mask, value); and
-- the actions that it asks about.
pub record QuestionData : Type 0 where
  pub name : List ℕ
  pub ranges : List (ℕ × ℕ)
  pub masks : List (ℕ × ℕ)
  pub actions : ActionSet

-- the ends between which a word must lie
abbrev pub range_at : QuestionData → ℕ → ℕ × ℕ
range_at q word = slice_index_or q.ranges word (0, 0)

-- the bits that a word must have, as a mask and the value under it
abbrev pub mask_at : QuestionData → ℕ → ℕ × ℕ
mask_at q word = slice_index_or q.masks word (0, 0)

-- masks that every word meets
abbrev pub no_masks : List (ℕ × ℕ)
no_masks = replicate 16 (0, 0)

-- a range that leaves no number of 32 bits out
abbrev pub is_whole : ℕ × ℕ → Bool
is_whole range = (range.0 == 0) && (range.1 == 4294967295)
