-- What the test of two pieces' prices says.
use Rattle.std.proofs.Common.{◌≡◌, ℕ, ◌*◌, ◌<◌, Bool, true, not, ◌&&◌, ◌||◌, eqb, ltb, ℤ, pos, ◌-ℤ◌, ◌≤ℤ◌, is_some, arith}
use lib.Signed.{le_z}
use Rattle.std.proofs.lemmas.Bool.Decides.{nat_tests}
use Rattle.std.proofs.lemmas.Int.{ints}
use Rattle.slips.specs.Problem.{Problem, Live, Allowed, pence}
use Rattle.slips.specs.View.{View, mate}
use Rattle.slips.specs.Groups.{price_side, margin}
use Rattle.slips.specs.Verdict.{pair_good}
use Rattle.slip_laws.proofs.Records.{le_is, le_from}

-- over plain numbers: m is the mate of u, low and high say that the margin is not under and not above 0
pair_parts : (u v m : ℕ) (lu lv some low high : Bool) → u < v → lu ≡ true → lv ≡ true → some ≡ true
    → (not (ltb u v && (lu && (lv && some))) || (low && (not (eqb m v) || high))) ≡ true → (low ≡ true) × (m ≡ v → high ≡ true)
pair_parts u v m lu lv some low high h a b c e = (grind (arith, nat_tests), λ q. grind (arith, nat_tests))

pair_whole : (u v m : ℕ) (lu lv some low high : Bool) → (u < v → lu ≡ true → lv ≡ true → some ≡ true → (low ≡ true) × (m ≡ v → high ≡ true))
    → (not (ltb u v && (lu && (lv && some))) || (low && (not (eqb m v) || high))) ≡ true
pair_whole u v m lu lv some low high f = grind (arith, nat_tests)

both_zero : (z : ℤ) → pos 0 ≤ℤ z → z ≤ℤ pos 0 → z ≡ pos 0
both_zero z a b = omega (arith, ints)

at_most_zero : (z : ℤ) → z ≡ pos 0 → z ≤ℤ pos 0
at_most_zero z e = omega (arith, ints)

-- an allowed pair of live pieces has a margin that is not negative, and mates have none
pub pair_is : (p : Problem) (s : View) (u v : ℕ) → pair_good p s u v ≡ true → Live p u → Live p v → u < v → Allowed p u v
    → (pos 0 ≤ℤ margin p s u v) × (mate s u ≡ v → margin p s u v ≡ pos 0)
pair_is p s u v e lu lv h a =
    let r = pair_parts u v (mate s u) (p.live u) (p.live v) (is_some (p.cost u v)) (le_z (pos 0) (margin p s u v)) (le_z (margin p s u v) (pos 0)) h lu.marked lv.marked a e in
    let low = le_is (pos 0) (margin p s u v) r.0 in
    (low, λ q. both_zero (margin p s u v) low (le_is (margin p s u v) (pos 0) (r.1 q)))

pub pair_from : (p : Problem) (s : View) (u v : ℕ) → u < p.size → v < p.size
    → (Live p u → Live p v → u < v → Allowed p u v → (pos 0 ≤ℤ margin p s u v) × (mate s u ≡ v → margin p s u v ≡ pos 0))
    → pair_good p s u v ≡ true
pair_from p s u v bu bv f =
    pair_whole u v (mate s u) (p.live u) (p.live v) (is_some (p.cost u v)) (le_z (pos 0) (margin p s u v)) (le_z (margin p s u v) (pos 0))
    (λ h lu lv a.
    let r = f (record { below = bu; marked = lu }) (record { below = bv; marked = lv }) h a in
    (le_from (pos 0) (margin p s u v) r.0, λ q. le_from (margin p s u v) (pos 0) (at_most_zero (margin p s u v) (r.1 q))))

-- margins and prices: a is twice the cost, b the prices
under : (a b : ℤ) → pos 0 ≤ℤ (a -ℤ b) → b ≤ℤ a
under a b h = omega (arith, ints)

over : (a b : ℤ) → b ≤ℤ a → pos 0 ≤ℤ (a -ℤ b)
over a b h = omega (arith, ints)

meets : (a b : ℤ) → (a -ℤ b) ≡ pos 0 → b ≡ a
meets a b e = omega (arith, ints)

met : (a b : ℤ) → b ≡ a → (a -ℤ b) ≡ pos 0
met a b e = omega (arith, ints)

pub prices_under : (p : Problem) (s : View) (u v : ℕ) → pos 0 ≤ℤ margin p s u v → price_side s u v ≤ℤ pos (2 * pence p u v)
prices_under p s u v h = under (pos (2 * pence p u v)) (price_side s u v) h

pub margin_over : (p : Problem) (s : View) (u v : ℕ) → price_side s u v ≤ℤ pos (2 * pence p u v) → pos 0 ≤ℤ margin p s u v
margin_over p s u v h = over (pos (2 * pence p u v)) (price_side s u v) h

pub prices_meet : (p : Problem) (s : View) (u v : ℕ) → margin p s u v ≡ pos 0 → price_side s u v ≡ pos (2 * pence p u v)
prices_meet p s u v e = meets (pos (2 * pence p u v)) (price_side s u v) e

pub margin_none : (p : Problem) (s : View) (u v : ℕ) → price_side s u v ≡ pos (2 * pence p u v) → margin p s u v ≡ pos 0
margin_none p s u v e = met (pos (2 * pence p u v)) (price_side s u v) e
