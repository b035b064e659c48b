-- What the calls on a book keep: where its stack is plain, the book is.
use Rattle.std.proofs.Common.{◌≡◌, ℕ, ◌<◌, false, List, [], length, get_or, map, refl, sym, subst}
use Rattle.sf_book.specs.Common.{IsPermutation, Insn, PieceData, IsPlainPiece}
use Rattle.std.proofs.lemmas.List.Elements.{All-map, All-cons, All-nil}
use Rattle.std.proofs.lemmas.List.Sorted.{All-permutation}
use Rattle.sf_book.specs.Books.{OutstandingData, RegionData, BookData, fresh}
use Rattle.sf_book.specs.Exact.{HasMembers}
use Rattle.sf_book.specs.PlainBooks.{IsPlainBook}

-- the outstanding piece is plain
abbrev OfPlain : OutstandingData → Type 0
OfPlain e = IsPlainPiece e.piece

-- each piece and each region has a member
pub plain_has_members : (b : BookData) → IsPlainBook b → HasMembers b
plain_has_members b h = record {
  outstanding = λ k d less. (h.outstanding k d less).some;
  regions = λ k d less. (h.regions k d less).some;
  emptied = h.emptied;
}

-- a region's piece, by its place
pub region_plain : (b : BookData) (i : ℕ) (r : RegionData) → i < length b.regions → r ≡ get_or b.regions i r
    → IsPlainBook b → IsPlainPiece r.piece
region_plain b i r less is h = subst (λ (x : RegionData). IsPlainPiece x.piece) (sym is) (h.regions i r less)

pub plain_fresh : (stack : List (List Insn)) (r : PieceData) (budget : ℕ) → IsPlainPiece r
    → IsPlainBook (fresh stack r budget)
plain_fresh stack r budget h = record {
  outstanding = All-cons OfPlain (record { id = 0; piece = r; leased = false }) [] h (All-nil OfPlain);
  regions = All-nil (λ (r : RegionData). IsPlainPiece r.piece);
  emptied = refl;
}

pub plain_marks : (b : BookData) (g : OutstandingData → OutstandingData)
    → ((e : OutstandingData) → (g e).piece ≡ e.piece) → IsPlainBook b
    → IsPlainBook (record b { outstanding = map g b.outstanding })
plain_marks b g pieces h = record {
  outstanding = All-map OfPlain g b.outstanding
      (λ k d less. subst IsPlainPiece (sym (pieces _)) (h.outstanding k d less));
  regions = h.regions;
  emptied = h.emptied;
}

pub plain_permuted : (b : BookData) (rs : List RegionData) → IsPermutation b.regions rs → IsPlainBook b
    → IsPlainBook (record b { regions = rs })
plain_permuted b rs p h = record {
  outstanding = h.outstanding;
  regions = All-permutation (λ (r : RegionData). IsPlainPiece r.piece) b.regions rs p h.regions;
  emptied = h.emptied;
}
