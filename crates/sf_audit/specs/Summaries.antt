-- The summary of an audit, for a person.
use Rattle.std.specs.Prelude.{ℕ, ◌+◌, ◌-◌, ◌==◌, nat_lt, not, ◌&&◌, Bool, true, false, List, [], ◌∷◌, ◌++◌, codes, count_by, length, map, position, if◌then◌else◌, Option, Some, None, option_and_then, slice_get, unwrap_or}
use Rattle.sf_audit.specs.Common.{decimal, Data, view, call_words, text_at, NamesData, is_text_among, GroupData, QuestionData, Reply, Allowed, Summary, Kind}
use Rattle.sf_audit.specs.declared.summary.lists.Kind.TheVariants as kinds
use Rattle.sf_audit.specs.Outcomes.{Found}
use Rattle.sf_audit.specs.Reports.{is_never, is_allowed, is_unsettled}
use Rattle.sf_audit.specs.Expectations.{ExpectedData, control_line, has_unexpected, is_accepted}

-- How a summary is written: what stands before it; whether each allowed question has a line with its call; the names of
-- calls; the groups; and for each question where it stands.
pub record SummaryData : Type 0 where
  pub head : List ℕ
  pub all : Bool
  pub names : List NamesData
  pub groups : List GroupData
  pub origins : List Data

-- the same, by the values of the code
abbrev pub summary_data : Summary → SummaryData
summary_data s = record {
  head = s.head.now;
  all = s.all;
  names = s.names.now;
  groups = s.groups.now;
  origins = map view s.origins.now;
}

-- A question of a summary: its name and reply, the place of its group, whether its name is an accepted one, and the
-- comment above it in its policy.
pub record RowData : Type 0 where
  pub name : List ℕ
  pub reply : Reply
  pub place : ℕ
  pub accepted : Bool
  pub comment : List ℕ

-- ---- the questions

-- the group has a question of this name
abbrev pub has_question : List ℕ → GroupData → Bool
has_question name g = is_text_among g.questions name

-- the place of the first group that has a question of this name; behind all groups where none has it
abbrev pub section_of : List GroupData → List ℕ → ℕ
section_of groups name = unwrap_or (position (has_question name) groups) (length groups)

-- the comment above the question at a place, by where the questions stand; empty where there is none
abbrev pub comment_at : List Data → ℕ → List ℕ
comment_at origins place = unwrap_or (option_and_then (text_at (codes "comment")) (slice_get origins place)) []

-- the question at a place
abbrev pub row_of : SummaryData → ExpectedData → (place : ℕ) → List ℕ → Reply → RowData
row_of s e place name reply = record {
  name = name;
  reply = reply;
  place = section_of s.groups name;
  accepted = is_accepted e.accepted name;
  comment = comment_at s.origins place;
}

-- questions, the first of them at this place
abbrev pub rows_of : SummaryData → ExpectedData → (place : ℕ) → List QuestionData → List Reply → List RowData
rows_of s e place (q ∷ qs) (r ∷ rs) = row_of s e place q.name r ∷ rows_of s e (place + 1) qs rs
rows_of s e place _ _ = []

-- ---- which questions are listed

-- the question stands under the group at the place, or behind all groups, if a place is given
abbrev pub is_in : Option ℕ → RowData → Bool
is_in (Some place) row = row.place == place
is_in None row = true

-- the question is one of the kind
abbrev pub is_kind : Kind → RowData → Bool
is_kind kinds.Asked row = true
is_kind kinds.Allowed row = is_allowed row.reply
is_kind kinds.Accepted row = is_allowed row.reply && row.accepted
is_kind kinds.Unexpected row = is_allowed row.reply && not row.accepted
is_kind kinds.Unsettled row = is_unsettled row.reply

-- the question is of the kind, and stands there
abbrev pub is_listed : Option ℕ → Kind → RowData → Bool
is_listed place kind row = is_in place row && is_kind kind row

-- a name, if it is listed
abbrev pub listed_name : Bool → List ℕ → List (List ℕ)
listed_name listed name = if listed then name ∷ [] else []

-- the names of the questions that are listed
abbrev pub names_of : Option ℕ → Kind → List RowData → List (List ℕ)
names_of place kind [] = []
names_of place kind (row ∷ rows) = listed_name (is_listed place kind row) row.name ++ names_of place kind rows

-- how many they are
abbrev pub count_of : Option ℕ → Kind → List RowData → ℕ
count_of place kind rows = count_by (is_listed place kind) rows

-- ---- lists in lines of 100 columns

-- what stands before the lines of a group
abbrev pub indent : List ℕ
indent = codes "    "

-- how many columns are left in the line of a word, where its list has so many left: those of a new line, if it doesn't
-- fit
abbrev pub line_room : ℕ → List ℕ → ℕ
line_room room word = if nat_lt (length word) room then room else 96

-- how many are left behind the word, a comma and a blank
abbrev pub room_behind : ℕ → List ℕ → ℕ
room_behind room word = room - length word - 2

-- what stands between a word and the one before it
abbrev pub gap : ℕ → List ℕ → List ℕ
gap room word = if nat_lt (length word) room then codes ", " else 44 ∷ 10 ∷ indent

-- words behind others
abbrev pub next_words : ℕ → List (List ℕ) → List ℕ
next_words room [] = []
next_words room (word ∷ words) =
    gap room word ++ (word ++ next_words (room_behind (line_room room word) word) words)

-- a list behind its head; nothing where it is empty
abbrev pub list_text : List ℕ → List (List ℕ) → List ℕ
list_text head [] = []
list_text head (word ∷ words) =
    head ++ (word ++ (next_words (room_behind (room_behind 102 head) word) words ++ 10 ∷ []))

-- ---- the groups

-- how many questions are accepted, if any is
abbrev pub accepted_words : ℕ → List ℕ
accepted_words count = if count == 0 then [] else codes ", " ++ (decimal count ++ codes " of them accepted")

-- the line of a group: its title, how many of its questions are allowed, and how many of these are accepted
abbrev pub group_line : List ℕ → (allowed asked accepted : ℕ) → List ℕ
group_line title allowed asked accepted =
    title ++ (codes ": " ++ (decimal allowed ++ (codes " of " ++ (decimal asked ++ (codes " allowed"
    ++ (accepted_words accepted ++ 10 ∷ []))))))

-- the line of a question with its example as a call, if it has one
abbrev pub example_line : List NamesData → List ℕ → Reply → List ℕ
example_line names name (Allowed input) = (indent ++ (name ++ codes ": ")) ++ (call_words names input ++ 10 ∷ [])
example_line names name _ = []

-- the line of a comment; none where it is empty
abbrev pub comment_line : List ℕ → List ℕ
comment_line comment = if length comment == 0 then [] else codes "        " ++ (comment ++ 10 ∷ [])

-- the line of a question, and that of its comment
abbrev pub row_lines : List NamesData → RowData → List ℕ
row_lines names row = example_line names row.name row.reply ++ comment_line row.comment

-- the lines of the questions at a place that are allowed and not accepted
abbrev pub example_lines : List NamesData → ℕ → List RowData → List ℕ
example_lines names place [] = []
example_lines names place (row ∷ rows) =
    (if is_listed (Some place) kinds.Unexpected row then row_lines names row else [])
    ++ example_lines names place rows

-- the questions at a place that are allowed and not accepted: lines for each of them, or their names
abbrev pub unexpected_text : (all : Bool) → List NamesData → ℕ → List RowData → List ℕ
unexpected_text true names place rows = example_lines names place rows
unexpected_text false names place rows = list_text indent (names_of (Some place) kinds.Unexpected rows)

-- the group at a place, under its title, where one of its questions is allowed
abbrev pub section_text : (all : Bool) → List NamesData → List RowData → ℕ → List ℕ → List ℕ
section_text all names rows place title =
    if count_of (Some place) kinds.Allowed rows == 0 then []
    else group_line title (count_of (Some place) kinds.Allowed rows) (count_of (Some place) kinds.Asked rows)
    (count_of (Some place) kinds.Accepted rows) ++ unexpected_text all names place rows

-- the title of the questions that stand behind all groups
abbrev pub last_title : List GroupData → List ℕ
last_title [] = codes "Questions"
last_title (g ∷ gs) = codes "Other questions"

-- the groups from a place on
abbrev pub section_texts : (all : Bool) → List NamesData → List RowData → ℕ → List GroupData → List ℕ
section_texts all names rows place [] = []
section_texts all names rows place (g ∷ gs) =
    section_text all names rows place g.title ++ section_texts all names rows (place + 1) gs

-- all groups, and the questions that stand behind them
abbrev pub groups_text : (all : Bool) → List NamesData → List RowData → List GroupData → List ℕ
groups_text all names rows groups =
    section_texts all names rows 0 groups ++ section_text all names rows (length groups) (last_title groups)

-- questions are asked there, and none of them is allowed
abbrev pub is_closed : List RowData → ℕ → Bool
is_closed rows place =
    not (count_of (Some place) kinds.Asked rows == 0) && (count_of (Some place) kinds.Allowed rows == 0)

-- the titles of such groups from a place on
abbrev pub closed_titles : List RowData → ℕ → List GroupData → List (List ℕ)
closed_titles rows place [] = []
closed_titles rows place (g ∷ gs) = listed_name (is_closed rows place) g.title ++ closed_titles rows (place + 1) gs

-- ---- the other lines

-- the end of a word of which there are so many
abbrev pub ending : ℕ → List ℕ
ending count = if count == 1 then [] else codes "s"

-- how many filters and questions there are
abbrev pub size_words : (filters questions : ℕ) → List ℕ
size_words filters questions =
    decimal filters ++ (codes " filter" ++ (ending filters ++ (codes ", " ++ (decimal questions ++ (codes " question"
    ++ (ending questions ++ codes ": "))))))

-- how many questions have each kind of reply, and how many are accepted
abbrev pub totals_words : (never allowed accepted unsettled : ℕ) → List ℕ
totals_words never allowed accepted unsettled =
    (decimal never ++ (codes " never, " ++ (decimal allowed ++ codes " allowed")))
    ++ (accepted_words accepted ++ (codes ", " ++ (decimal unsettled ++ codes " unsettled\n\n")))

-- the first line, of so many filters, and an empty one
abbrev pub first_line : (filters : ℕ) → List RowData → List Reply → List ℕ
first_line filters rows rs =
    size_words filters (length rows)
    ++ totals_words (count_by is_never rs) (count_by is_allowed rs) (count_of None kinds.Accepted rows)
    (count_by is_unsettled rs)

-- the line of the first question of the control that isn't allowed; else that the control holds
abbrev pub broken_text : List QuestionData → List Reply → List ℕ
broken_text (q ∷ qs) (r ∷ rs) = if is_allowed r then broken_text qs rs else control_line q.name r
broken_text _ _ = codes "control holds\n"

-- the same, if there is a control
abbrev pub control_text : ExpectedData → List ℕ
control_text e = if length e.control == 0 then [] else broken_text e.control e.held

-- what shows more of the questions that are allowed
abbrev pub more_line : (all : Bool) → List ℕ
more_line true = codes "--why, without a summary, shows which instruction lets each through.\n"
more_line false =
    codes "--summary-all shows the call of each; --why, without a summary, which instruction lets it through.\n"

-- what to do where a question is allowed and not accepted
abbrev pub advice : (all unexpected : Bool) → List ℕ
advice all true = more_line all ++ codes "--accept FILE names those that may be allowed.\n"
advice all false = []

-- the lines behind those of the groups
abbrev pub end_text : (all : Bool) → List RowData → ExpectedData → (unexpected : Bool) → List ℕ
end_text all rows e unexpected =
    list_text (codes "Unsettled (a greater --budget may settle them): ") (names_of None kinds.Unsettled rows)
    ++ (control_text e ++ advice all unexpected)

-- A summary behind what stands before it, from the questions of so many filters: how much there is; the groups with an
-- allowed question, and the names of these questions or lines for each; the groups without one; and what else there is
-- to know.
abbrev pub body_text : (all : Bool) → List NamesData → List GroupData → ExpectedData → (filters : ℕ)
    → List QuestionData → List Reply → List RowData → List ℕ
body_text all names groups e filters qs rs rows =
    first_line filters rows rs ++ (groups_text all names rows groups
    ++ (list_text (codes "Nothing allowed: ") (closed_titles rows 0 groups)
    ++ end_text all rows e (has_unexpected e.accepted qs rs)))

-- the whole summary of what an audit found
abbrev pub summary_text : SummaryData → ExpectedData → Found → List ℕ
summary_text s e o =
    s.head ++ body_text s.all s.names s.groups e (length o.settled.stack) o.questions o.replies
    (rows_of s e 0 o.questions o.replies)
