-- Audits of one stack that end with nothing outstanding have one report, one summary, and one document.
use Rattle.sf_audit.proofs.Common.{◌≡◌, ℕ, ◌<◌, Bool, List, [], ◌∷◌, ◌++◌, length, get_or, sym, ◌∙◌, subst, arith, codes, if◌then◌else◌, same_lists, same_Some, slice_get-get_or, null, string, path_length, BookData, counts_of, ExplorationsHaveOneResult, QuestionData, Reply, HasReply, HaveOneReply, IsWholeFringe, same_counts, IsRightReplyAt, AreRightReplies, IsAudit, Found, count, counts_document, fields, list_of, sizes_document, counts_line, size_line, region_lines, title_line, question_lines, totals_line, report_text, ExpectedData, SummaryData, body_text, rows_of, summary_text, TellingData, region_documents, question_documents, shown_expected, totals_document, audit_document}

-- what an audit that left nothing outstanding explored
pub whole : (files : List (List ℕ)) (questions : List QuestionData) (n : ℕ) (o : Found) → IsAudit files questions n o
    → o.settled.outstanding ≡ [] → IsWholeFringe o.settled
whole files questions n o f none =
    record { settled = f.found.end.settled; fringe = f.found.end.fringe; none_left = none }

same_replies : HaveOneReply → (b c : BookData) → IsWholeFringe b → IsWholeFringe c → b.stack ≡ c.stack
    → (qs : List QuestionData) (xs ys : List Reply) → AreRightReplies b qs xs → AreRightReplies c qs ys → xs ≡ ys
same_replies one b c h k stack qs xs ys f g =
    same_lists xs ys (f.count ∙ sym g.count) (λ k' d less.
    let less' : k' < length ys = let e = f.count in let e' = g.count in omega arith in
    let p : IsRightReplyAt b qs k' (get_or xs k' d) = f.each k' (get_or xs k' d) (slice_get-get_or xs k' d less) in
    let r : IsRightReplyAt c qs k' (get_or ys k' d) = g.each k' (get_or ys k' d) (slice_get-get_or ys k' d less') in
    let asked : r.question ≡ p.question = same_Some r.question p.question (sym r.asked ∙ p.asked) in
    one b c p.question (get_or xs k' d) (get_or ys k' d) h k stack p.replies.rule
    (subst (λ (a : QuestionData). HasReply c a (get_or ys k' d)) asked r.replies.rule))

-- two audits found the same
record IsFoundTwice (o p : Found) : Type 0 where
  stack : o.settled.stack ≡ p.settled.stack
  questions : o.questions ≡ p.questions
  replies : o.replies ≡ p.replies
  counts : counts_of o.settled ≡ counts_of p.settled
  regions : o.settled.regions ≡ p.settled.regions

module _ (explored : ExplorationsHaveOneResult) (reply : HaveOneReply) (files others : List (List ℕ))
    (questions : List QuestionData) (m n : ℕ) (o p : Found) (f : IsAudit files questions m o)
    (g : IsAudit others questions n p) (stack : o.settled.stack ≡ p.settled.stack)
    (none : o.settled.outstanding ≡ []) (none' : p.settled.outstanding ≡ []) where
  found_twice : IsFoundTwice o p
  found_twice =
      let h = whole files questions m o f none in
      let k = whole others questions n p g none' in
      let one = explored o.settled p.settled h.settled k.settled h.fringe k.fringe stack none none' in
      let asked : o.questions ≡ p.questions = f.found.questions ∙ sym g.found.questions in
      let theirs : AreRightReplies p.settled o.questions p.replies =
      subst (λ (qs : List QuestionData). AreRightReplies p.settled qs p.replies) (sym asked) g.found.replies in
      record {
        stack = stack;
        questions = asked;
        replies = same_replies reply o.settled p.settled h k stack o.questions o.replies p.replies f.found.replies
            theirs;
        counts = same_counts o.settled p.settled one none none';
        regions = one.regions;
      }

  pub same_report : (shown : Bool) (remarks : List (List ℕ)) → report_text o shown remarks ≡ report_text p shown remarks
  same_report shown remarks =
      let same = found_twice in
      λ j. (title_line ++ (size_line (length (same.stack j)) (path_length (same.stack j)) (length (same.questions j))
      ++ counts_line (same.counts j)))
      ++ (question_lines 0 (same.questions j) (same.replies j) remarks
      ++ ((if shown then region_lines 1 (same.regions j) else []) ++ totals_line (same.replies j)))

  pub same_summary : (s : SummaryData) (e : ExpectedData) → summary_text s e o ≡ summary_text s e p
  same_summary s e =
      let same = found_twice in
      λ j. s.head ++ body_text s.all s.names s.groups e (length (same.stack j)) (same.questions j) (same.replies j)
      (rows_of s e 0 (same.questions j) (same.replies j))

  pub same_document : (t : TellingData) (e : ExpectedData) → audit_document t e o ≡ audit_document t e p
  same_document t e =
      let same = found_twice in
      λ j. fields (
      (codes "counts", counts_document (same.counts j))
      ∷ (codes "expected", shown_expected t.is_expecting e)
      ∷ (codes "questions", list_of (question_documents t e 0 (same.questions j) (same.replies j)))
      ∷ (codes "regions", if t.regions then list_of (region_documents 1 (same.regions j)) else null)
      ∷ (codes "seccomp_audit", string (codes "audit"))
      ∷ (codes "stack", sizes_document (same.stack j))
      ∷ (codes "totals", totals_document (same.replies j))
      ∷ (codes "version", count 1) ∷ [])
