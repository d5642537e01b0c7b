-- What the code's own values stand for: cited by the contracts of its inner functions. No call's promise rests on it. Assumes nothing.
use Rattle.std.specs.Prelude.{ℕ, suc, List, [], ◌∷◌, ltb, length, set}
use Rattle.std.specs.Borrow.{MutBor}
use Rattle.route.specs.Grid.{pick}
use Rattle.traffic.specs.declared.pages.Page.{Page}

-- a page over lent bytes, of which none is written yet
abbrev pub page : MutBor (List ℕ) → Page
page lent = record { out = lent; end = 0 }

-- the page once these are its bytes, written up to here
abbrev pub turned : Page → List ℕ → ℕ → Page
turned p bs n = record { out = record p.out { now = bs }; end = n }

-- one byte more, if there is room
abbrev pub put : Page → ℕ → Page
put p b = pick (ltb p.end (length p.out.now)) (turned p (set p.out.now p.end b) (suc p.end)) p

-- more bytes, in their order
unfoldable pub puts : Page → List ℕ → Page
puts p [] = p
puts p (b ∷ bs) = puts (put p b) bs
