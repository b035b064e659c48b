-- Facts of conditions, which are learnt one after the other.
use Rattle.sf_dom.proofs.Common.{ℕ, ◌+◌, ◌<◌, List, [], ◌∷◌, ◌++◌, length, get_or, take, drop, arith, refl, sym, ap, subst, take_more, All-nil, All-cons, All-head, All-tail, All-contains, Contains-append_right, All, IsInput, Input, IsPool, IsCondBelow, Cond, Node, FactsView, Covers, Agrees, IsPlainCondition, some-input, LearnsBy, CantLearn, LearnAll, AreBuiltBy, CantBeBuilt, Meets, AllMet, AreFactsOf, ◌∙◌, take-append-drop, drop_more}
use Rattle.sf_dom.proofs.Assumed.{learns-covers, learns-keeps, learns-only, cant-learn}
use Rattle.sf_dom.proofs.Sampled.{first-covers, first-sound}

-- one more condition is learnt
learn-more : (a b c : FactsView) (ns : List Node) (conds : List Cond) (cond : Cond) → LearnAll a b ns conds
    → LearnsBy b c ns cond → LearnAll a c ns (conds ++ cond ∷ [])
learn-more a b c ns [] cond h k = (c, rw h k, refl)
learn-more a b c ns (x ∷ xs) cond h k = (h.0, h.1, learn-more h.0 b c ns xs cond h.2 k)

-- facts of some conditions learn one more
pub built-more : (xs : List Cond) (i : ℕ) (d : Cond) (c e : FactsView) (ns : List Node) → i < length xs
    → AreBuiltBy c ns (take i xs) → LearnsBy c e ns (get_or xs i d) → AreBuiltBy e ns (take (i + 1) xs)
built-more xs i d c e ns l h k =
    rw (take_more xs i d l) (h.0, h.1, learn-more h.0 c e ns (take i xs) (get_or xs i d) h.2 k)

-- where a condition can't be learnt after those before it, there are no facts of all
pub none-built : (xs : List Cond) (i : ℕ) (d : Cond) (f : FactsView) (ns : List Node) → i < length xs
    → AreBuiltBy f ns (take i xs) → CantLearn f ns (get_or xs i d) → CantBeBuilt ns xs
none-built xs i d f ns l h none = record {
  earlier = take i xs;
  cond = get_or xs i d;
  later = drop (i + 1) xs;
  all = sym (take-append-drop i xs) ∙ ap (λ ys. take i xs ++ ys) (drop_more xs i d l);
  before = f;
  built = h;
  none = none;
}

-- Facts of a pool that have learnt conditions. An input that agreed and meets them all agrees; where all
-- are plain, no other input does.
record HaveLearnt (f g : FactsView) (ns : List Node) (conds : List Cond) : Type 0 where
  covers : Covers g ns
  keep : (d : Input) → IsInput d → AllMet ns conds d → Agrees f ns d → Agrees g ns d
  only : All (IsPlainCondition ns) conds → (d : Input) → IsInput d → Agrees g ns d → Agrees f ns d × AllMet ns conds d

have-learnt : (f g : FactsView) (ns : List Node) (conds : List Cond) → Covers f ns
    → All (IsCondBelow (length ns)) conds → LearnAll f g ns conds → HaveLearnt f g ns conds
have-learnt f g ns [] h below e = subst (λ (k : FactsView). HaveLearnt f k ns []) e (record {
  covers = h;
  keep = λ d i m a. a;
  only = λ plain d i a. (a, All-nil (λ (x : Cond). Meets ns x d));
})
have-learnt f g ns (c ∷ cs) h below k =
    let first = All-head (IsCondBelow (length ns)) c cs below in
    let later = have-learnt k.0 g ns cs (learns-covers f ns c h first k.0 k.1)
    (All-tail (IsCondBelow (length ns)) c cs below) k.2 in
    record {
      covers = later.covers;
      keep = λ d i m a. later.keep d i (All-tail (λ (x : Cond). Meets ns x d) c cs m)
          (learns-keeps f ns c h first k.0 k.1 d i a (All-head (λ (x : Cond). Meets ns x d) c cs m));
      only = λ plain d i a.
          let before = later.only (All-tail (IsPlainCondition ns) c cs plain) d i a in
          let one = learns-only f ns c h first k.0 k.1 (All-head (IsPlainCondition ns) c cs plain) d i before.0 in
          (one.0, All-cons (λ (x : Cond). Meets ns x d) c cs one.1 before.1);
    }

-- what facts of conditions promise
pub built-facts : (f : FactsView) (ns : List Node) (conds : List Cond) → Covers f ns
    → All (IsCondBelow (length ns)) conds → AreBuiltBy f ns conds → AreFactsOf f ns conds
built-facts f ns conds covers below h =
    let learnt = have-learnt h.0 f ns conds (first-covers h.0 ns covers.pool h.1) below h.2 in
    let only : All (IsPlainCondition ns) conds → (d : Input) → IsInput d → Agrees f ns d → AllMet ns conds d
    = λ plain d i a. (learnt.only plain d i a).1 in
    record {
      covers = covers;
      keeps = λ d i m. learnt.keep d i m (first-sound h.0 ns covers.pool h.1 d i);
      only = only;
      some = λ plain nodes. let s = some-input f ns covers nodes in (s.0, s.1, only plain s.0 s.1 s.2);
    }

-- where there are no facts of conditions, no input meets them all
pub none-meets-all : (ns : List Node) (conds : List Cond) → IsPool ns → All (IsCondBelow (length ns)) conds
    → CantBeBuilt ns conds → (d : Input) → IsInput d → ¬ AllMet ns conds d
none-meets-all ns conds p below h d i m =
    let met : (x : Cond) → Type 0 = λ x. Meets ns x d in
    let first = h.built.0 in let all = rw h.all at below in let meets = rw h.all at m in
    let learnt = have-learnt first h.before ns h.earlier (first-covers first ns p h.built.1)
    (before (IsCondBelow (length ns)) h.earlier (h.cond ∷ h.later) all) h.built.2 in
    cant-learn h.before ns h.cond learnt.covers (here (IsCondBelow (length ns)) all) h.none d i
    (learnt.keep d i (before met h.earlier (h.cond ∷ h.later) meets) (first-sound first ns p h.built.1 d i))
    (here met meets)
  where
    before : (P : Cond → Type 0) (xs ys : List Cond) → All P (xs ++ ys) → All P xs
    before P [] ys a = All-nil P
    before P (x ∷ xs) ys a =
        All-cons P x xs (All-head P x (xs ++ ys) a) (before P xs ys (All-tail P x (xs ++ ys) a))

    here : (P : Cond → Type 0) → All P (h.earlier ++ h.cond ∷ h.later) → P h.cond
    here P a = All-contains P (h.earlier ++ h.cond ∷ h.later) h.cond a
        (Contains-append_right h.earlier (h.cond ∷ h.later) h.cond (0, omega arith, refl))
