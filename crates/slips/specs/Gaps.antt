-- A gap slip: a cut and parts that show that there is no pairing.
use Rattle.std.specs.Prelude.{◌≡◌, ℕ, suc, ◌%◌, ◌<◌, ◌≤◌, false, ◌&&◌, ◌≢◌, length, pos, ◌==◌, nat_eq}
use Rattle.ranges.specs.Sums.{count_below}
use Rattle.slips.specs.Problem.{Problem, Live, Allowed}
use Rattle.slips.specs.View.{View, mate, price, group, group_at}
use Rattle.slips.specs.System.{BlankGroup}

-- how many parts a gap slip may number
abbrev pub most_parts : ℕ
most_parts = 256

-- how many live pieces have this part number; those of number 0 are cut
abbrev pub part_size : Problem → (ℕ → ℕ) → ℕ → ℕ
part_size p part j = count_below p.size (λ u. p.live u && part u == j)

-- how many of the parts 1 to k have an odd number of live pieces
abbrev pub odd_parts : Problem → (ℕ → ℕ) → ℕ → ℕ
odd_parts p part k = count_below k (λ j. nat_eq (part_size p part (suc j) % 2) 1)

-- the form of a gap slip
pub record GapForm (p : Problem) (s : View) : Type 0 where
  pub kind : s.kind ≡ 2
  pub piece_records : length s.pieces ≡ p.size
  pub group_records : length s.groups ≡ 127
  pub no_total : s.total ≡ 0
  pub no_count : s.count ≡ 0
  pub no_mates : (u : ℕ) → u < p.size → mate s u ≡ 65535
  pub no_prices : (u : ℕ) → u < p.size → price s u ≡ pos 0
  pub struck_blank : (u : ℕ) → u < p.size → p.live u ≡ false → group s u ≡ 0
  pub part_numbers : (u : ℕ) → Live p u → group s u ≤ most_parts
  pub no_groups : (k : ℕ) → k < 127 → BlankGroup (group_at s k)

-- no allowed pair joins live pieces of two parts, and more parts are odd than pieces are cut
pub record Separated (p : Problem) (part : ℕ → ℕ) (k : ℕ) : Type 0 where
  pub apart : (u v : ℕ) → Live p u → Live p v → u < v → Allowed p u v → part u ≢ 0 → part v ≢ 0 → part u ≡ part v
  pub more : part_size p part 0 < odd_parts p part k

-- what a gap slip is to show
pub record GapCertificate (p : Problem) (s : View) : Type 0 where
  pub form : GapForm p s
  pub separated : Separated p (group s) most_parts
