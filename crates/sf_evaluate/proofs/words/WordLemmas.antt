-- What words say, seen as texts and not as borrows of texts.
use Rattle.sf_evaluate.proofs.Common.{◌≡◌, ◌&&◌, not, list_all, Bool, true, false, List, map, refl, codes, string_bytes, is_some, unwrap_or, Row, Text, one_of, IsSwitch, paths_of, text_of, version_of, X64, Strictest, Settings, AreSettings, machine_named, reading_named, profile_words_fit, arith, common_steps}
use Rattle.std.specs.Prelude.{Option, Some, None, [], ◌∷◌, find, is_none}

-- what is there, or another thing
some_or : {X : Type 0} (o : Option X) (x : X) → is_some o ≡ true → o ≡ Some (unwrap_or o x)
some_or (Some y) x there = refl
some_or None x there = cc

-- the first two of four that all hold
first_hold : (a b c d : Bool) → ((a && b) && (c && d)) ≡ true → (a ≡ true) × (b ≡ true)
first_hold true true c d all = (refl, refl)
first_hold true false c d all = cc
first_hold false b c d all = cc

-- what words say that fit, read word by word
pub settings_said : (rows : List Row) (s : Settings) (machine conflicts kernel : Text) → profile_words_fit rows ≡ true
    → machine ≡ text_of (codes "machine") rows → s.machine ≡ unwrap_or (machine_named machine) X64
    → conflicts ≡ text_of (codes "conflicts") rows → s.conflicts ≡ unwrap_or (reading_named conflicts) Strictest
    → kernel ≡ text_of (codes "kernel") rows → s.kernel ≡ version_of kernel
    → map string_bytes s.caps.items ≡ paths_of (codes "cap") rows → IsSwitch (one_of (codes "newer") rows) s.newer
    → IsSwitch (one_of (codes "skip-unknown") rows) s.skip_unknown → AreSettings rows s
settings_said rows s machine conflicts kernel fits m m_is r r_is k k_is caps newer skip =
    grind (arith, common_steps, some_or, first_hold)

-- all pass just where nothing is found that doesn't
pub none_fails : {X : Type 0} (test : X → Bool) (xs : List X) → is_none (find (λ x. not (test x)) xs) ≡ list_all test xs
none_fails test [] = refl
none_fails test (x ∷ xs) = grind (arith, common_steps, none_fails test xs)
