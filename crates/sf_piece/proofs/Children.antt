-- Pieces with one more truth value in their names; names are routes.
use Rattle.sf_piece.proofs.Common.{common_steps, ◌≡◌, ℕ, zero, suc, ◌+◌, ◌-◌, ◌<◌, ◌&&◌, not, Bool, true, false, List, [], ◌∷◌, ◌++◌, length, refl, sym, ap, subst, ◌∙◌, inl, inr, arith, append_assoc, append-nil, length-append, false≢true, AllByRecursion, and_parts, Input, IsInput, Div, Insn, Alu, Branch, ReturnA, X, IsLawfulProgram, successors_inside, bits, trace_of, insn_progress, IsWay, returns_at, goes_on, AreWays, IsWholeRoute, IsRoute, some_way, Node, Cond, is_met, same, FactsView, SymbolicMachine, PieceData, is_member, is_prefix, IsTrulyNamed, HasNoMember, IsPending, StandsAt, IsPiece, concrete_state, HasAtHand, Asks, NextIs, IsQuery, IsForeseen, IsNever, list_all-append}
use Rattle.sf_piece.specs.Works.{AfterTruthValue, with_sense}
use Rattle.sf_piece.proofs.Moves.{made}
use Rattle.sf_piece.proofs.Kept.{Turned, some_input}
use Rattle.sf_piece.proofs.Queries.{Meets, branch_turned, return_turned, zero_turned, nonzero_turned, entry_trace}
use Rattle.sf_piece.proofs.Prefixes.{and-nil, prefix_next, same_right, same-true}

-- ---- after any truth value

pub turned : (p : PieceData) (i : Insn) (b : Bool) (cs : List Cond) (fs : FactsView) (m : SymbolicMachine) → IsPiece p
    → HasAtHand p i → Asks p.machine i → AfterTruthValue p i b m → Meets p i cs b
    → Turned p (made p (p.name ++ b ∷ []) cs m fs)
turned p (Branch test other t f) b cs fs m h s asks after meets =
    rw after (branch_turned p test other t f b cs fs h s meets)
turned p ReturnA b cs fs m h s asks after meets = rw after (return_turned p b cs fs h s asks meets)
turned p (Alu Div X) true cs fs m h s asks after meets = rw after (zero_turned p cs fs h s asks meets)
turned p (Alu Div X) false cs fs m h s asks after meets = rw after (nonzero_turned p cs fs h s asks meets)
turned p _ b cs fs m h s asks after meets = absurd after

-- ---- members

pub sense_is : (pool : List Node) (d : Input) (cond : Cond) (b : Bool) → cond.sense ≡ true
    → is_met pool d (with_sense cond b) ≡ same (is_met pool d cond) b
sense_is pool d cond b e = grind (arith, common_steps, same_right)

-- the name with one more truth value
pub named_next : (p : PieceData) (i : Insn) (x b : Bool) → IsPiece p → HasAtHand p i → (d : Input) → IsInput d
    → (is_member p d ≡ true → NextIs (insn_progress d (concrete_state p.pool p.machine d) i) p.machine.taken x)
    → (is_member p d && same x b) ≡ is_prefix (p.name ++ b ∷ []) (trace_of p.stack d)
named_next p i x b h s d inp next =
    prefix_next p.name (trace_of p.stack d) b x (is_member p d) (h.members d inp)
    (λ member. entry_trace p i x s d (next member) inp member)

other_way : (x b : Bool) → same x (not b) ≡ false → same x b ≡ true
other_way x b h = grind (arith, common_steps)

-- where no member has the other truth value, every member has this one
never_implies : (p : PieceData) (cond : Cond) (b : Bool) → IsNever p cond (not b) → (d : Input) → IsInput d
    → is_member p d ≡ true → is_met p.pool d (with_sense cond b) ≡ true
never_implies p cond b h d inp member = search (arith, other_way)

-- so this one is the next truth value on every member
pub entry_foreseen : (p : PieceData) (i : Insn) (cond : Cond) (b : Bool) → IsQuery p i cond → IsNever p cond (not b)
    → IsForeseen p i b
entry_foreseen p i cond b e never = let implied = never_implies p cond b never in search (arith, same-true, sense_is)

-- where no member has either truth value, there is no member
pub never_both : (p : PieceData) (cond : Cond) → IsNever p cond false → IsNever p cond true → HasNoMember p
never_both p cond f t = grind (arith, common_steps, false≢true, never_implies)

pub foreseen_meets : (p : PieceData) (i : Insn) (b : Bool) → IsForeseen p i b → Meets p i p.conditions b
unfolding is_member
foreseen_meets p i b fore d inp member = (member, fore.next d inp member)

pub and_same : (v b : Bool) → v ≡ (v && same b b)
and_same v b = grind (arith, common_steps)

abbrev pub taken_on : PieceData → Bool → SymbolicMachine → PieceData
taken_on p b m = made p (p.name ++ b ∷ []) p.conditions m p.facts

-- ---- children

abbrev pub child_of : PieceData → Cond → Bool → SymbolicMachine → FactsView → PieceData
child_of p cond b m fs = made p (p.name ++ b ∷ []) (p.conditions ++ with_sense cond b ∷ []) m fs

pub child_members : (p : PieceData) (cond : Cond) (b : Bool) (m : SymbolicMachine) (fs : FactsView) (d : Input)
    → is_member (child_of p cond b m fs) d ≡ (is_member p d && is_met p.pool d (with_sense cond b))
unfolding is_member
child_members p cond b m fs d = list_all-append (is_met p.pool d) p.conditions (with_sense cond b ∷ [])
    ∙ ap (λ (v : Bool). is_member p d && v) (and-nil (is_met p.pool d (with_sense cond b)))

pub child_both : (p : PieceData) (cond : Cond) (b : Bool) (m : SymbolicMachine) (fs : FactsView) (d : Input)
    → is_member (child_of p cond b m fs) d ≡ true → (is_member p d ≡ true)
    × (is_met p.pool d (with_sense cond b) ≡ true)
child_both p cond b m fs d member = grind (arith, common_steps, and_parts, child_members)

pub child_meets : (p : PieceData) (i : Insn) (cond : Cond) (b : Bool) (m : SymbolicMachine) (fs : FactsView)
    → IsQuery p i cond
    → Meets p i (p.conditions ++ with_sense cond b ∷ []) b
unfolding is_member
child_meets p i cond b m fs e d inp member =
    let both = child_both p cond b m fs d member in
    let is : is_met p.pool d cond ≡ b = search (arith, same-true, sense_is) in (
      both.0,
      subst (λ (v : Bool). NextIs (insn_progress d (concrete_state p.pool p.machine d) i) p.machine.taken v) is
          (e.next d),
    )

-- ---- names are routes

some_ways : (codes : List (List Insn)) → AllByRecursion IsLawfulProgram codes → (more : List Bool) × AreWays codes more
some_ways [] laws = ([], refl)
some_ways (code ∷ codes) laws =
    let way = some_way (length code) code 0 laws.0 laws.0.some (omega arith) in
    let on = some_ways codes laws.1 in
    (way.0 ++ on.0, (way.0, on.0, way.1, on.1, refl))

length-bits : (n a : ℕ) → length (bits n a) ≡ n
length-bits zero a = refl
length-bits (suc n) a = ap suc (length-bits n a)

-- a way from a place that goes on from the truth values taken
fill : (code : List Insn) (place taken : ℕ) (pre : List Bool) → IsLawfulProgram code → place < length code
    → IsPending code place taken pre → (on : List Bool) × IsWay code place (pre ++ on)
fill code place taken pre lawful inside (inl (none, e)) =
    let way = some_way (length code) code place lawful inside (omega arith) in
    (way.0, subst (λ (l : List Bool). IsWay code place (l ++ way.0)) (sym e) way.1)
fill code place taken pre lawful inside (inr (inl (at, few, len))) = (
  bits (32 - taken) 0,
  returns_at ReturnA at (
    length-append pre (bits (32 - taken) 0)
        ∙ omega (arith, length-bits (32 - taken) 0),
    refl,
  ),
)
fill code place taken pre lawful inside (inr (inr (at, one, e))) =
    let next : place + 1 < length code =
    (successors_inside code place (Alu Div X) at (lawful.inside place (Alu Div X) at) lawful.ends).0 in
    let way = some_way (length code) code (place + 1) lawful next (omega arith) in (
      way.0,
      goes_on (Alu Div X) (false ∷ []) (place + 1) way.0 at (inr (refl, refl)) way.1
          (ap (λ (l : List Bool). l ++ way.0) e),
    )

route_of : (p : PieceData) (rest : List (List Insn)) (base pre : List Bool) → StandsAt p rest base pre
    → IsRoute p.stack p.name
route_of p [] base pre s = (
  [],
  subst (IsWholeRoute p.stack) (ap (λ (l : List Bool). base ++ l) (sym s.inside) ∙ sym s.name_is
      ∙ sym (append-nil p.name)) (s.route [] refl),
)
route_of p (code ∷ later) base pre s =
    let on = fill code p.machine.place p.machine.taken pre s.laws.0
    (s.inside.safe some_input).inside s.inside.pending in
    let others = some_ways later s.laws.1 in
    let whole = s.route ((pre ++ on.0) ++ others.0) (pre ++ on.0, others.0, on.1, others.1, refl) in (
      on.0 ++ others.0,
      subst (IsWholeRoute p.stack) (ap (λ (l : List Bool). base ++ l) (append_assoc pre on.0 others.0)
          ∙ sym (append_assoc base pre (on.0 ++ others.0)) ∙ ap (λ (l : List Bool). l ++ (on.0 ++ others.0))
          (sym s.name_is)) whole,
    )

pub piece_named : (p : PieceData) → IsPiece p → IsTrulyNamed p
piece_named p h = record { route = route_of p h.rest h.base h.pre h.stands; members = h.members }
