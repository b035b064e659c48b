-- Names as beginnings of lists of truth values.
use Rattle.sf_book.proofs.Common.{common_steps, ◌≡◌, ◌+◌, ◌≤◌, Bool, true, false, not, List, [], ◌∷◌, ◌++◌, refl, sym, arith, append_assoc, Input, IsInput, Answer, trace_of, prefix-refl, bit, prefix_bit, PieceData, is_member, is_prefix, IsTrulyNamed, IsRightSplit, IsRightAnswer}

pub bit-le : (b : Bool) → bit b ≤ 1
bit-le true = omega arith
bit-le false = omega arith

pub prefix-append : (m r : List Bool) → is_prefix m (m ++ r) ≡ true
prefix-append [] r = refl
prefix-append (true ∷ bs) r = prefix-append bs r
prefix-append (false ∷ bs) r = prefix-append bs r

-- what begins with a longer name begins with the shorter one
pub prefix_bit-le : (m n t : List Bool) → is_prefix m n ≡ true → prefix_bit n t ≤ prefix_bit m t
prefix_bit-le [] n t h = bit-le (is_prefix n t)
prefix_bit-le (b ∷ m) [] t h = absurd (cc)
prefix_bit-le (b ∷ m) (c ∷ n) [] h = omega arith
prefix_bit-le (true ∷ m) (true ∷ n) (true ∷ t) h = prefix_bit-le m n t h
prefix_bit-le (true ∷ m) (true ∷ n) (false ∷ t) h = omega arith
prefix_bit-le (true ∷ m) (false ∷ n) (e ∷ t) h = absurd (cc)
prefix_bit-le (false ∷ m) (true ∷ n) (e ∷ t) h = absurd (cc)
prefix_bit-le (false ∷ m) (false ∷ n) (true ∷ t) h = omega arith
prefix_bit-le (false ∷ m) (false ∷ n) (false ∷ t) h = prefix_bit-le m n t h

-- at most one of two children is a beginning, and only where the parent is
prefix_bit-children : (q t : List Bool) → prefix_bit (q ++ false ∷ []) t
    + prefix_bit (q ++ true ∷ []) t ≤ prefix_bit q t
prefix_bit-children [] [] = omega arith
prefix_bit-children [] (true ∷ t) = omega arith
prefix_bit-children [] (false ∷ t) = omega arith
prefix_bit-children (b ∷ q) [] = omega arith
prefix_bit-children (true ∷ q) (true ∷ t) = prefix_bit-children q t
prefix_bit-children (true ∷ q) (false ∷ t) = omega arith
prefix_bit-children (false ∷ q) (true ∷ t) = omega arith
prefix_bit-children (false ∷ q) (false ∷ t) = prefix_bit-children q t

below_none : (a b : Bool) → bit a ≤ bit b → b ≡ false → a ≡ false
below_none true true l h = absurd (cc)
below_none true false l h = absurd (omega arith)
below_none false b l h = refl

pub longer_misses : (m n t : List Bool) → is_prefix m n ≡ true → is_prefix m t ≡ false → is_prefix n t ≡ false
longer_misses m n t h = below_none (is_prefix n t) (is_prefix m t) (prefix_bit-le m n t h)

-- pieces of one stack with one name have the same members
pub same_members : (p q : PieceData) → IsTrulyNamed p → IsTrulyNamed q → p.stack ≡ q.stack → p.name ≡ q.name
    → (d : Input) → IsInput d → is_member p d ≡ is_member q d
same_members p q np nq s n d i = grind (arith, common_steps)

-- a piece whose name goes on from another's has none of the inputs that the other hasn't
longer_has_none : (p f : PieceData) → IsTrulyNamed p → IsTrulyNamed f → f.stack ≡ p.stack
    → is_prefix p.name f.name ≡ true → (d : Input) → IsInput d → is_member p d ≡ false → is_member f d ≡ false
longer_has_none p f np nf s h d i out = grind (arith, common_steps, longer_misses)

shared : (m f t : Bool) → (m ≡ true → t ≡ not f) → (m ≡ false → f ≡ false) → (m ≡ false → t ≡ false)
    → bit f + bit t ≡ bit m
shared true true t one a b = rw (one refl) refl
shared true false t one a b = rw (one refl) refl
shared false f t one a b = rw (a refl, b refl) refl

-- each member goes to one of the children, and the children have no other
pub split_members : (p f t : PieceData) → IsTrulyNamed p → IsRightSplit p f t → (d : Input) → IsInput d
    → bit (is_member f d) + bit (is_member t d) ≡ bit (is_member p d)
split_members p f t np s d i =
    shared (is_member p d) (is_member f d) (is_member t d) (s.one d i)
    (longer_has_none p f np s.false_named s.false_stack
    (rw s.false_name (rw append_assoc (prefix-append p.name (s.on ++ false ∷ [])))) d i)
    (longer_has_none p t np s.true_named s.true_stack
    (rw s.true_name (rw append_assoc (prefix-append p.name (s.on ++ true ∷ [])))) d i)

-- the children's names take no more room than the piece's
pub split_names : (p f t : PieceData) → IsRightSplit p f t → (l : List Bool)
    → prefix_bit f.name l + prefix_bit t.name l ≤ prefix_bit p.name l
split_names p f t s l = search (arith, prefix_bit-children, prefix_bit-le, prefix-append)

settled : (m : Bool) (p e w : List Bool) → m ≡ is_prefix p w → is_prefix p e ≡ true → (m ≡ true → w ≡ e)
    → m ≡ is_prefix e w
settled true p e w is h one = rw (one refl) (sym (prefix-refl e))
settled false p e w is h one = sym (longer_misses p e w h (sym is))

-- the whole route of a settled piece goes on from its name
pub answer_begins : (p : PieceData) (whole : List Bool) (a : Answer) → IsRightAnswer p whole a
    → is_prefix p.name whole ≡ true
answer_begins p whole a s = rw s.begins.1 (prefix-append p.name s.begins.0)

-- a settled piece is truly named by its whole route
pub answer_members : (p : PieceData) (whole : List Bool) (a : Answer) → IsTrulyNamed p → IsRightAnswer p whole a
    → (d : Input) → IsInput d → is_member p d ≡ is_prefix whole (trace_of p.stack d)
answer_members p whole a np s d i = settled (is_member p d) p.name whole (trace_of p.stack d) (np.members d i)
    (answer_begins p whole a s) (s.trace d i)
