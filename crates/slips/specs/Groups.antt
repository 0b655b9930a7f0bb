-- Which pieces a group holds, and the prices between two pieces.
use Rattle.std.specs.Prelude.{ℕ, zero, suc, ◌*◌, Bool, false, cond, not, ◌&&◌, ◌||◌, ℤ, pos, ◌+ℤ◌, ◌-ℤ◌, ◌==◌}
use Rattle.ranges.specs.Sums.{sum_below}
use Rattle.slips.specs.Problem.{Problem, pence}
use Rattle.slips.specs.View.{View, price, group, parent, worth}

-- h is g, or g's parent, and so on up, within so many steps; 0 ends the way up
abbrev pub up_to : (ℕ → ℕ) → ℕ → ℕ → ℕ → Bool
up_to above zero g h = false
up_to above (suc steps) g h = not (g == 0) && (g == h || up_to above steps (above g) h)

-- piece u is inside group h: its group, that group's parent, and so on up. Parents have higher numbers, so that as many steps as there are
-- groups come to the top
abbrev pub inside : View → ℕ → ℕ → Bool
inside s h u = up_to (parent s) s.count (group s u) h

-- a set of pieces holds exactly one of two
abbrev pub splits : (ℕ → Bool) → ℕ → ℕ → Bool
splits set u v = cond (set u) (not (set v)) (set v)

-- the prices of the groups that hold exactly one of two pieces
abbrev pub between : View → ℕ → ℕ → ℕ
between s u v = sum_below s.count (λ k. cond (splits (inside s (suc k)) u v) (worth s (suc k)) 0)

-- the prices of two pieces and of the groups that hold exactly one of them
abbrev pub price_side : View → ℕ → ℕ → ℤ
price_side s u v = price s u +ℤ price s v +ℤ pos (between s u v)

-- what is left of twice the cost of an allowed pair
abbrev pub margin : Problem → View → ℕ → ℕ → ℤ
margin p s u v = pos (2 * pence p u v) -ℤ price_side s u v
