use Rattle.sf_evaluate.proofs.Common.{◌≡◌, ◌∙◌, Bool, true, false, List, [], ◌∷◌, ap, codes, refl, sym, IfErr-weaker, IfOk-weaker, if◌then◌else◌, Row, found_of, rows_of, ArePaths, paths_of, paths_found, lacks_names, names_paths}
use Rattle.sf_evaluate.proofs.files.naming.SetLemmas.{naming_why}
use Rattle.sf_evaluate.proofs.files.naming.read_needed_names.Goals as goal

paths_if : (rows : List Row) (lacks : Bool) → lacks ≡ lacks_names rows
    → (if lacks then codes "@names" ∷ [] else paths_of (codes "names") rows) ≡ names_paths rows
paths_if rows lacks is = ap (λ b. if b then codes "@names" ∷ [] else paths_of (codes "names") rows) is

pub returns-then-lacks_names : goal.returns-then-lacks_names
returns-then-lacks_names g c =
    let rows = rows_of (found_of c.args.found.now) in
    let named = paths_if rows true (sym c.if-lacks_names.true ∙ c.lacks_names.ensures) in
    let read = c.read_all_names in
    record {
      called = IfOk-weaker read.result _ _ (λ v all. record { paths = _; named = named; read = all })
          read.ensures.meant;
      refused = IfErr-weaker read.result _ _ (λ e why. (_, named, naming_why _ _ _ e why)) read.ensures.failed;
      failed = IfErr-weaker read.result _ _ (λ e why. (_, named, why)) read.ensures.failed;
      closed = read.ensures.closed;
      same = read.ensures.same;
    }

pub returns-else-lacks_names : goal.returns-else-lacks_names
returns-else-lacks_names g c =
    let rows = rows_of (found_of c.args.found.now) in
    let given : ArePaths (codes "names") rows c.unwrap_or-paths.result.now =
    rw c.unwrap_or-paths.ensures (paths_found (found_of c.args.found.now) (codes "names") c.get_strs.result _
    c.get_strs.ensures refl) in
    let named = given ∙ paths_if rows false (sym c.if-lacks_names.false ∙ c.lacks_names.ensures) in
    let read = c.read_all_names-else-lacks_names in
    record {
      called = IfOk-weaker read.result _ _ (λ v all. record { paths = _; named = named; read = all })
          read.ensures.meant;
      refused = IfErr-weaker read.result _ _ (λ e why. (_, named, naming_why _ _ _ e why)) read.ensures.failed;
      failed = IfErr-weaker read.result _ _ (λ e why. (_, named, why)) read.ensures.failed;
      closed = read.ensures.closed;
      same = read.ensures.same;
    }
