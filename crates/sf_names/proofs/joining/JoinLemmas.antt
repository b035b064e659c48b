-- A set, and sets, to which further ones are joined.
use Rattle.sf_names.proofs.Common.{common_steps, arith, IfErr, OnOk, ◌≡◌, ◌⊎◌, inl, inr, ◌∙◌, ℕ, ◌+◌, ◌<◌, nat_lt, Bool, true, false, not, List, [], ◌∷◌, ◌++◌, append_assoc, ap, get_or, length, slice_get, slice_set, if◌then◌else◌, Some, Result, Ok, Err, refl, subst, sym, set-get_or, slice_get-get_or, Fault, AreByNumber, CallData, GivesSet, NamesData, AreSetsJoined, IsSetJoined, joined_set, may_add, new_calls, with_calls_of, joined_append}
use Rattle.sf_names.specs.declared.fault.Fault.TheVariants as faults

-- ---- a set and a further one of its name

-- what is due where the calls fit, and there are few
due_set : (fit many : Bool) (n : NamesData) → fit ≡ true → many ≡ false
    → (if not fit then Err faults.Key else if many then Err faults.Count else Ok n) ≡ Ok n
due_set fit many n e f = grind (arith, common_steps)

-- the calls of two lists are few, where those of the same two lists are
pub are_few : (own fresh seen calls : List CallData) (many : Bool) → many ≡ nat_lt 1024 (length own + length fresh)
    → own ≡ seen → fresh ≡ calls → many ≡ false → nat_lt 1024 (length seen + length calls) ≡ false
are_few own fresh seen calls many counted first second few = cc

-- The calls fit, there are few of them, and those that the set hadn't were added to its own, by their numbers. For the
-- prover: `seen` is the set as its fields say it.
pub added_to : {X : Type 0} (n seen more after : NamesData) (calls : List CallData) (r : Result X Fault) → seen ≡ n
    → may_add n more ≡ true → calls ≡ new_calls n more → nat_lt 1024 (length seen.calls + length calls) ≡ false
    → after.set ≡ seen.set → after.arch ≡ seen.arch → OnOk r (AreByNumber (seen.calls ++ calls) after.calls)
    → OnOk r (GivesSet (Ok after) (joined_set n more))
added_to n seen more after calls (Err e) view fit same few set arch sorted = tt
added_to n seen more after calls (Ok x) view fit same few set arch sorted = (
  with_calls_of n more,
  due_set (may_add n more) (nat_lt 1024 (length n.calls + length (new_calls n more))) (with_calls_of n more) fit
      (are_few seen.calls calls n.calls (new_calls n more) _ refl (ap (λ (s : NamesData). s.calls) view) same few),
  record {
    set = set ∙ ap (λ (s : NamesData). s.set) view;
    arch = arch ∙ ap (λ (s : NamesData). s.arch) view;
    calls = subst (λ (s : NamesData). AreByNumber (s.calls ++ new_calls n more) after.calls) view
        (subst (λ l. AreByNumber (seen.calls ++ l) after.calls) same sorted);
  },
)

-- ---- sets, and one more

-- a set that is as it was, put back at its place
pub refused_there : {X : Type 0} (sets : List NamesData) (place : ℕ) (d more after : NamesData) (r : Result X Fault)
    → place < length sets
    → IfErr r (λ e. (e ≡ faults.Memory) ⊎ ((after ≡ get_or sets place d)
    × (joined_set (get_or sets place d) more ≡ Err e)))
    → IfErr r (λ e. (e ≡ faults.Memory) ⊎ ((slice_set sets place after ≡ sets)
    × ((k : NamesData) × (slice_get sets place ≡ Some k) × (joined_set k more ≡ Err e))))
refused_there sets place d more after (Ok x) within why = tt
refused_there sets place d more after (Err e) within (inl memory) = inl memory
refused_there sets place d more after (Err e) within (inr why) = inr (
  ap (λ s. slice_set sets place s) why.0 ∙ set-get_or sets place d,
  (get_or sets place d, slice_get-get_or sets place d within, why.1),
)

-- ---- sets, and more of them

-- of more sets the first are joined; the rest is left
pub record JoinedSoFar (before sets all rest : List NamesData) : Type 0 where
  pub done : List NamesData
  pub whole : sets ≡ done ++ rest
  pub joined : AreSetsJoined before done all

-- one more is joined
pub one_joined : (before sets all rest more : List NamesData) (one : NamesData)
    → JoinedSoFar before sets all (one ∷ rest) → IsSetJoined all one more → JoinedSoFar before sets more rest
one_joined before sets all rest more one so_far joined = record {
  done = so_far.done ++ one ∷ [];
  whole = so_far.whole ∙ sym (append_assoc so_far.done (one ∷ []) rest);
  joined = joined_append before so_far.done (one ∷ []) all more so_far.joined (more, joined, refl);
}
