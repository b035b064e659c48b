-- What the types of books and ended explorations keep. Of a plain stack each piece is a plain one, and has a member,
-- and none was emptied.
use Rattle.std.specs.Prelude.{◌≡◌, ℕ, [], All}
use Rattle.sf_book.specs.Common.{IsPlain, IsPlainPiece}
use Rattle.sf_book.specs.Books.{OutstandingData, RegionData, BookData, IsKeptBook, IsSettled}
use Rattle.sf_book.specs.Unfoldings.{IsFringe}

-- the book of a plain stack: each outstanding piece and the piece of each region is plain, and none was emptied
pub record IsPlainBook (b : BookData) : Type 0 where
  pub outstanding : All (λ (e : OutstandingData). IsPlainPiece e.piece) b.outstanding
  pub regions : All (λ (r : RegionData). IsPlainPiece r.piece) b.regions
  pub emptied : b.emptied ≡ []

-- where the stack is plain, the book is
pub record IsPlainWhereStackIs (b : BookData) : Type 0 where
  pub book : IsPlain b.stack → IsPlainBook b

-- what the type of books keeps: the book is lawful and its ids are below the next one, it is plain where its stack is,
-- and it is the fringe of an unfolding
pub record IsBook (b : BookData) (next : ℕ) : Type 0 where
  pub kept : IsKeptBook b next
  pub plain : IsPlainWhereStackIs b
  pub fringe : IsFringe b

-- what the type of ended explorations keeps: the book is lawful with its regions in name order, it is plain where its
-- stack is, and it is the fringe of an unfolding
pub record IsEndedBook (b : BookData) : Type 0 where
  pub settled : IsSettled b
  pub plain : IsPlainWhereStackIs b
  pub fringe : IsFringe b
