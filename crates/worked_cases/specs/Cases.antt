-- The worked examples: what is asked of the rules, and what they are to answer.
use Rattle.std.specs.Prelude.{◌≡◌, ℕ, ◌-◌, List, [], ◌∷◌, ◌++◌, length, replicate, pos, Some, None, Option}
use Rattle.books.specs.Table.{Table}
use Rattle.list_book.specs.Lines.{list_table, line_of}
use Rattle.tariff_book.specs.declared.piece.Piece.{Piece}
use Rattle.tariff_book.specs.declared.terms.Terms.{Terms}
use Rattle.tariff_book.specs.Duties.{pieces_cost}
use Rattle.slips.specs.declared.fault.SlipFault.{SlipFault}
use Rattle.slips.specs.declared.fault.SlipFault.TheVariants.{Prices, Gap}
use Rattle.slips.specs.declared.slip.PieceRecord.{PieceRecord}
use Rattle.slips.specs.declared.slip.GroupRecord.{GroupRecord}
use Rattle.slips.specs.View.{View}
use Rattle.slips.specs.Verdict.{verdict}

pub data Case : Type 0 where
  -- two pieces under the terms of a tariff, and their cost, `None` where they are barred
  priced : Terms → Piece → Piece → Option ℕ → Case
  -- a slip under a book's table and the planner's marks, and its fault, `None` where it passes
  judged : Table → List ℕ → View → Option SlipFault → Case

-- the rules answer a case as the table says
abbrev pub Holds : Case → Type 0
Holds (priced t p q c) = pieces_cost t p q ≡ c
Holds (judged t ms s o) = verdict t ms s ≡ o

-- a break of at least 30 minutes, a spread of at most 720, 10 pence a minute, 500 pence for a move
abbrev terms : Terms
terms = record { least_break = 30; greatest_spread = 720; rate = 10; move_charge = 500 }

-- from one minute to another, and from one place to another
abbrev piece : ℕ → ℕ → ℕ → ℕ → Piece
piece s e o d = record { starts = s; ends = e; origin = o; destination = d }

-- from 6:00 to 10:00, ending at place 2
abbrev morning : Piece
morning = piece 360 600 1 2

-- what a slip says of a piece: its mate, its price in half pence, and the group around it, 0 for none
abbrev piece_of : ℕ → ℕ → ℕ → PieceRecord
piece_of m x g = record { mate = m; price = pos x; group = g }

-- a piece of a gap slip, in a part, or cut where that is 0
abbrev part : ℕ → PieceRecord
part g = piece_of 65535 0 g

-- what a slip says of a struck piece
abbrev blank : PieceRecord
blank = part 0

-- a group that is in no other, by its price
abbrev outer : ℕ → GroupRecord
outer x = record { price = pos x; parent = 0 }

-- the records of these groups, and blank ones after them
abbrev group_records : List GroupRecord → List GroupRecord
group_records gs = gs ++ replicate (127 - length gs) (outer 0)

abbrev priced_slip : ℕ → List PieceRecord → List GroupRecord → View
priced_slip total ps gs = record { kind = 1; total = total; count = length gs; pieces = ps; groups = group_records gs }

abbrev gap_slip : List PieceRecord → View
gap_slip ps = record { kind = 2; total = 0; count = 0; pieces = ps; groups = group_records [] }

-- four pieces: 0 with 1 is the cheapest pair, but leaves 2 with 3, the dearest
abbrev four : Table
four = list_table 4 (line_of 0 1 1 ∷ line_of 0 2 4 ∷ line_of 1 3 4 ∷ line_of 2 3 10 ∷ [])

-- 0 with 2 and 1 with 3, for 8 pence
abbrev four_slip : View
four_slip = priced_slip 8 (piece_of 2 1 0 ∷ piece_of 3 1 0 ∷ piece_of 0 7 0 ∷ piece_of 1 7 0 ∷ []) []

-- two triples whose pairs cost 2, and one pair between them for 20
abbrev six : Table
six = list_table 6 (line_of 0 1 2 ∷ line_of 0 2 2 ∷ line_of 1 2 2 ∷ line_of 2 3 20 ∷ line_of 3 4 2 ∷ line_of 3 5 2 ∷ line_of 4 5 2 ∷ [])

-- 0 with 1, 2 with 3 and 4 with 5, for 24 pence: one triple in group g, the other in group h
abbrev six_slip : ℕ → ℕ → List GroupRecord → View
six_slip g h gs = priced_slip 24 (piece_of 1 2 g ∷ piece_of 0 2 g ∷ piece_of 3 2 g ∷ piece_of 2 2 h ∷ piece_of 5 2 h ∷ piece_of 4 2 h ∷ []) gs

-- piece 0 is allowed with each of three others, which are barred from one another
abbrev star : Table
star = list_table 4 (line_of 0 1 5 ∷ line_of 0 2 5 ∷ line_of 0 3 5 ∷ [])

abbrev pub worked : List Case
worked =
    -- a gap of 240 minutes at one place, and a spread of just 720
    priced terms morning (piece 840 1080 2 1) (Some 2400)
    -- one minute later the spread is too great
    ∷ priced terms morning (piece 841 1081 2 1) None
    -- a gap of just 30 minutes, with a move
    ∷ priced terms morning (piece 630 900 3 1) (Some 800)
    -- one minute earlier the break is too short
    ∷ priced terms morning (piece 629 900 3 1) None
    -- no pieces: nothing to pair, and a total of 0
    ∷ judged (list_table 0 []) [] (priced_slip 0 [] []) None
    -- one piece: with nothing cut it is an odd part, so that it cannot be paired
    ∷ judged (list_table 1 []) (0 ∷ []) (gap_slip (part 1 ∷ [])) None
    -- four pieces: two pairs for 4 each cost less than one for 1 and one for 10
    ∷ judged four (0 ∷ 0 ∷ 0 ∷ 0 ∷ []) four_slip None
    -- with 2 and 3 struck, 0 and 1 are paired for 1
    ∷ judged four (0 ∷ 0 ∷ 2 ∷ 2 ∷ []) (priced_slip 1 (piece_of 1 1 0 ∷ piece_of 0 1 0 ∷ blank ∷ blank ∷ []) []) None
    -- with 2 and 3 restored the four are paired as before, and the mark 1 is live like 0
    ∷ judged four (0 ∷ 1 ∷ 0 ∷ 1 ∷ []) four_slip None
    -- six pieces: one pair has to join the triples, which the price of 18 on each triple pays for
    ∷ judged six (replicate 6 0) (six_slip 1 2 (outer 18 ∷ outer 18 ∷ [])) None
    -- without the groups the prices of 2 and 3 are too low for their cost
    ∷ judged six (replicate 6 0) (six_slip 0 0 []) (Some (Prices 2 3))
    -- with piece 0 of the star cut, the three others are three odd parts
    ∷ judged star (replicate 4 0) (gap_slip (part 0 ∷ part 1 ∷ part 2 ∷ part 3 ∷ [])) None
    -- with nothing cut the star is one part of four, and no gap is shown
    ∷ judged star (replicate 4 0) (gap_slip (replicate 4 (part 1))) (Some Gap)
    ∷ []
