-- The names from elsewhere that the specs of this crate use, passed on from one place. Declares nothing.
pub use Rattle.std.specs.Borrow.{Bor}
pub use Rattle.std.specs.Io.KnownBytes.{Appends}
pub use Rattle.clap.specs.Words.{IsAmong, Row, Text, first_of, one_of}
pub use Rattle.clap.specs.declared.error.kind.ErrorKind.{ErrorKind}
pub use Rattle.clap.specs.declared.error.kind.ErrorKind.TheVariants.{DisplayHelp, DisplayVersion}
pub use Rattle.sf_audit.specs.Audits.{IsAuditOf, IsWrongCount}
pub use Rattle.sf_audit.specs.Common.{Allowed, AreRightReplies, Data, Fault, GroupData, Insn, NamesData, Never, QuestionData, Reply, Unsettled, bytes_eq}
pub use Rattle.sf_audit.specs.Documents.{TellingData, audit_document, telling_data}
pub use Rattle.sf_audit.specs.Expectations.{ExpectedData, does_hold, expected_text, has_unexpected}
pub use Rattle.sf_audit.specs.Outcomes.{Found}
pub use Rattle.sf_audit.specs.Reports.{is_unsettled, report_text}
pub use Rattle.sf_audit.specs.Summaries.{summary_text}
pub use Rattle.sf_command.specs.declared.auditing.Asked.{Asked}
pub use Rattle.sf_command.specs.declared.auditing.AskedContents.{AskedContents}
pub use Rattle.sf_command.specs.declared.auditing.TextForm.{TextForm}
pub use Rattle.sf_command.specs.declared.auditing.TextForm.TheVariants.{Report, Summary, SummaryOfAll}
pub use Rattle.sf_command.specs.declared.auditing.Told.{Told}
pub use Rattle.sf_command.specs.declared.listing.ListingForm.{ListingForm}
pub use Rattle.sf_command.specs.declared.listing.ListingForm.TheVariants.{Digest, Json}
pub use Rattle.sf_command_line.specs.CommandLine.{errors_at, subcommand_at}
pub use Rattle.sf_command_line.specs.Options.{ArePaths, IsOptionNumber}
pub use Rattle.sf_compare.specs.Comparisons.{Compared, IsComparison, comparison_text, finding_of}
pub use Rattle.sf_compare.specs.Documents.{comparison_document}
pub use Rattle.sf_evaluate.specs.Asking.{AreNamed, AsksInput, LacksName, RefusesNamed, is_given, numbers_fit}
pub use Rattle.sf_evaluate.specs.Expecting.{AreAcceptedIn, IsControl, RefusesAccepted, RefusesControl, wants_summary}
pub use Rattle.sf_evaluate.specs.Faults.{IsOther}
pub use Rattle.sf_evaluate.specs.Files.{HoldStack, RefusesBoth, RefusesFiles}
pub use Rattle.sf_evaluate.specs.Groups.{AreGroupsIn, RefusesGroups, installed_groups}
pub use Rattle.sf_evaluate.specs.Identity.{HasBothFiles, HasFiles, identified}
pub use Rattle.sf_evaluate.specs.Origins.{HasOrigins}
pub use Rattle.sf_evaluate.specs.Outputs.{AnswersFiles, ChecksFiles, RefusesCheck}
pub use Rattle.sf_evaluate.specs.Policies.{AreAsked, RefusesAsking}
pub use Rattle.sf_evaluate.specs.Profiles.{RefusesProfile, WritesProfile, profile_words_fit}
pub use Rattle.sf_evaluate.specs.Wanted.{are_known, calls_asked, is_switched_on}
pub use Rattle.sf_evaluate.specs.Words.{words_fit_for}
pub use Rattle.sf_evaluate.specs.declared.fault.Fault.TheVariants.{Other}
pub use Rattle.sf_evaluate.specs.declared.files.identity.FileRole.TheVariants.{Filter, New, Old, Policy}
pub use Rattle.sf_insn.specs.declared.input.Input.{Input}
pub use Rattle.sf_json.specs.Documents.{document_line}
pub use Rattle.sf_list.specs.Changes.{AreChanges, ChangedData, changed_document, changed_text}
pub use Rattle.sf_list.specs.Documents.{listing_document}
pub use Rattle.sf_list.specs.Listings.{IsListing, Listed, digest_line, listing_text}
pub use Rattle.sf_needed.specs.Documents.{needs_document}
pub use Rattle.sf_needed.specs.Needs.{AreNeeds, NeedsData}
pub use Rattle.sf_needed.specs.Texts.{is_spare, needs_text}
pub use Rattle.sf_relations.specs.declared.examples.Example.{Example}
pub use Rattle.sf_relations.specs.declared.relation.Relation.{Relation}
pub use Rattle.sf_relations.specs.declared.relation.Relation.TheVariants.{Different, Looser, Tighter}
pub use Rattle.sf_stack.specs.declared.fault.Fault.TheVariants.{Count, Memory, TooLarge, TooManyRows, UnknownName, Write}
pub use Rattle.sf_trace.specs.Traces.{IsWhy}
