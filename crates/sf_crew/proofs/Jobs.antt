-- The jobs of one view among all.
use Rattle.sf_crew.proofs.Common.{common_steps, ◌≡◌, ℕ, ◌≤◌, min, List, length, ap, ◌∙◌, arith, some, get_elem?, BoardKey, View, count_of_regions, jobs, once_below, Sound, Kept, HasAllJobs}
use Rattle.sf_crew.proofs.Totals.{times, total_at, total_only}

pub jobs_once : (k : BoardKey) (n e : ℕ) (d least : ℕ → ℕ) (views : List View) (port : ℕ) (v : View)
    → get_elem? views port ≡ some v → Kept k n e d least views → (x : ℕ)
    → times x (jobs v) ≤ once_below x (min n (count_of_regions k))
jobs_once k n e d least views port v at h x = grind (arith, common_steps, total_at)

-- a view in which no seat is joined has no jobs
idle_jobs : (k : BoardKey) (n : ℕ) (least : ℕ → ℕ) (x : ℕ) (u : View) → Sound k n least u → u.joined_seats ≡ 0
    → times x (jobs u) ≡ 0
idle_jobs k n least x u h none = grind (arith, common_steps)

idle_count : (k : BoardKey) (n : ℕ) (least : ℕ → ℕ) (u : View) → Sound k n least u → u.joined_seats ≡ 0
    → length (jobs u) ≡ 0
idle_count k n least u h none = grind (arith, common_steps)

-- where the word of the next job is past the last one, and all seats are joined in a view, it has each job
pub all_jobs : (k : BoardKey) (n e : ℕ) (d least : ℕ → ℕ) (views : List View) (port : ℕ) (v : View)
    → get_elem? views port ≡ some v → Kept k n e d least views → count_of_regions k ≤ n → HasAllJobs k v
all_jobs k n e d least views port v at h past = λ whole. (
  (let count : length (jobs v) ≡ min n (count_of_regions k) = search (arith, total_only, idle_count) in omega arith),
  λ x. (let all : times x (jobs v) ≡ once_below x (min n (count_of_regions k)) =
      search (arith, total_only, idle_jobs) in all ∙ ap (once_below x) (omega arith)),
)
