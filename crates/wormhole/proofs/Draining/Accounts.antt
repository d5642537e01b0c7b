-- The account of a call: the moves that it makes and leaves are those that it brings and found, for the records that pass any test. An accepted
-- call by the laws of its step, a refused one since nothing changes. Assumes nothing.
use Prim.Native.Nat.{ℕ, ◌+◌, ◌<◌}
use mathlib.Core.Path.{◌≡◌, refl, ap, ◌∙◌}
use mathlib.Core.Logic.{◌≢◌}
use mathlib.Core.Bool.{Bool, true, false, ◌&&◌}
use mathlib.Core.List.{List}
use native.Mathlib.Decide.{ℕ_discrete}
use native.Mathlib.Omega.{arith}
use lib.Dec.{T, eqb, eqb→eq}
use lib.ListN.{length, get_or, set, length-set}
use mir.Facts.{and_yes}
use Rattle.route.specs.Grid.{pick}
use Rattle.route.specs.Numbers.{rule_of, channels}
use Rattle.wormhole.specs.declared.records.Record.{Record}
use Rattle.wormhole.specs.Memory.{Sections, net, sections, joined, owner_of, holds_of, none, fresh}
use Rattle.wormhole.specs.Steps.{Stepped, act}
use Rattle.wormhole.specs.Calls.{needed, fits, lowest, bad_size}
use Rattle.wormhole.specs.Drains.{Lent, Move, Call, offering, moving, owes, offers, moves, after, brings, makes}
use Rattle.wormhole.proofs.Sections.{sections_joined, joined_long}
use Rattle.wormhole.proofs.Draining.Picks.{passed}
use Rattle.wormhole.proofs.Draining.Network.{Network}
use Rattle.wormhole.proofs.Draining.Loads.{load_none}
use Rattle.wormhole.proofs.Draining.Fill.{heavy, yet}
use Rattle.wormhole.proofs.Draining.Frames.{Frame, frame_refl}
use Rattle.wormhole.proofs.Draining.Invariant.{Nothing, aim, Fine, Slot, unused, waits, holds, Invariant, left_of, left_in, Kept, kept_all, left_all}
use Rattle.wormhole.proofs.Draining.Moving.{kept}
use Rattle.wormhole.proofs.Draining.Climbing.{goes_on}
use Rattle.wormhole.proofs.Draining.Emptying.{unused_left}
use Rattle.wormhole.proofs.Draining.Meshes.{house_ranked, one_deep, real}
use Rattle.wormhole.proofs.Draining.Reading.{read, written}
use Rattle.wormhole.proofs.Draining.Ranging.{ranges}
use Rattle.wormhole.proofs.Draining.Answers as answers

-- ---- what being live or not says of a record's state
fine_of : (M : Network) (s : Sections) (i : ℕ) (r : Record) → r.live ≡ 1 → Slot M s i r → Fine M r
fine_of M s i r live (unused e nothing) = absurd (omega (arith, live, ap (λ (x : Record). x.live) e))
fine_of M s i r live (waits fine W) = fine
fine_of M s i r live (holds fine X) = fine

pub unused_of : (M : Network) (s : Sections) (i : ℕ) (r : Record) → r.live ≡ 0 → Slot M s i r → (r ≡ none) × Nothing s i
unused_of M s i r dead (unused e nothing) = (e, nothing)
unused_of M s i r dead (waits fine W) = absurd (omega (arith, dead, fine.live))
unused_of M s i r dead (holds fine X) = absurd (omega (arith, dead, fine.live))

-- a refusal counts nothing
refused : (c : ℕ) (b : Bool) (x : ℕ) → c ≢ 0 → pick (eqb c 0 && b) x 0 ≡ 0
refused c b x ne = passed (eqb c 0 && b) x 0 (λ t. ne (eqb→eq c 0 (and_yes (eqb c 0) b t).0))

module _ (C R rule : ℕ) where
  abbrev M : Network
  M = real C R rule

  -- lent memory of the right sizes that meets the invariant
  pub record Good (count : ℕ) (m : Lent) : Type 0 where
    pub long : length m.words ≡ needed C R
    pub many : length m.records ≡ count
    pub kept : Invariant M (sections (channels C R) m.words) m.records

  -- the moves left to its records that pass a test
  abbrev pub owed : (ℕ → Bool) → Lent → ℕ
  owed test m = left_in M test (sections (channels C R) m.words) m.records

  -- a packet that has not set out owes all its moves
  owing : (s : Sections) (i a b f : ℕ) → Nothing s i → left_of M s i (fresh a b f) ≡ owes C a b f
  unfolding yet
  owing s i a b f nothing = omega (arith, load_none M.numbers i (heavy M (aim M (fresh a b f))) (owner_of s) (holds_of s) nothing)

  module _ (count : ℕ) (m : Lent) (G : Good count m) where
    abbrev s : Sections
    s = sections (channels C R) m.words

    abbrev rs : List Record
    rs = m.records

    -- a call is right if what it leaves is good, and the account is even
    abbrev Right : Call → Type 0
    Right c =
        let m' = after C R rule m c in
        Good count m' × ((test : ℕ → Bool) → makes C R rule test m c + owed test m' ≡ brings C R rule test m c + owed test m)

    -- record i becomes r, and the words w
    module _ (i : ℕ) (r : Record) (w : List ℕ) (low : i < length rs) (long : length w ≡ needed C R) (F : Frame i s (sections (channels C R) w))
        (mine : Slot M (sections (channels C R) w) i r) where
      abbrev m¹ : Lent
      m¹ = record { words = w; records = set rs i r }

      good : Good count m¹
      good = record { long = long; many = length-set rs i r ∙ G.many; kept = kept_all M i s (sections (channels C R) w) F rs r low G.kept mine }

      change : (test : ℕ → Bool)
          → owed test m¹ + pick (test i) (left_of M s i (get_or rs i none)) 0 ≡ owed test m + pick (test i) (left_of M (sections (channels C R) w) i r) 0
      change = left_all M i s (sections (channels C R) w) F rs r low

    -- ---- a move that is accepted
    moved : (v : Move) → (moves C R rule m v).answer ≡ 0 → Right (moving v)
    moved v e =
        rw (A.words, A.records) (
          good i t.packet w A.low long frame slot,
          λ test. rw e (less (test i) (owed test (m¹ i t.packet w A.low long frame slot)) (owed test m) (change i t.packet w A.low long frame slot test)),
        )
      where
        i : ℕ
        i = v.packet

        r : Record
        r = get_or rs i none

        t : Stepped
        t = act (net C R rule) s i r v.kind v.channel v.direction

        w : List ℕ
        w = joined t.words

        A : answers.Moved C R rule m.words rs i v.kind v.channel v.direction
        A = answers.moved C R rule m.words rs i v.kind v.channel v.direction e

        K : Kept M i s r t
        K =
            kept M s rs G.kept i r (fine_of M s i r A.live (G.kept.slot i)) t (G.kept.slot i)
            (read (net C R rule) one_deep (house_ranked (rule_of rule) C R 0) s i r v.kind v.channel v.direction A.known A.may)

        owners : length t.words.owner ≡ channels C R
        owners = K.frame.owners ∙ G.kept.owners

        holdings : length t.words.holds ≡ channels C R
        holdings = K.frame.holds ∙ G.kept.holdings

        long : length w ≡ needed C R
        long = joined_long (channels C R) t.words owners holdings (K.frame.nexts ∙ G.kept.nexts)

        again : sections (channels C R) w ≡ t.words
        again = sections_joined (channels C R) t.words owners holdings

        frame : Frame i s (sections (channels C R) w)
        frame = rw again K.frame

        slot : Slot M (sections (channels C R) w) i t.packet
        slot = rw again K.slot

        less : (b : Bool) (x y : ℕ) → x + pick b (left_of M s i r) 0 ≡ y + pick b (left_of M (sections (channels C R) w) i t.packet) 0 → pick b 1 0 + x ≡ 0 + y
        less true x y h = omega (arith, h, rw (← again) at K.less)
        less false x y h = omega (arith, h)

    -- ---- an offer that is accepted
    taken : (a b f : ℕ) → (offers C R rule m a b f).answer.refusal ≡ 0 → Right (offering a b f)
    taken a b f e =
        rw (A.words, A.records) (
          good i r m.words A.low G.long (frame_refl i s) slot,
          λ test. rw (e, A.number)
              (more (test i) (owed test (m¹ i r m.words A.low G.long (frame_refl i s) slot)) (owed test m)
              (change i r m.words A.low G.long (frame_refl i s) slot test)),
        )
      where
        i : ℕ
        i = lowest rs

        r : Record
        r = fresh a b f

        A : answers.Taken C R rule m.words rs a b f
        A = answers.taken C R rule m.words rs a b f e

        before : (get_or rs i none ≡ none) × Nothing s i
        before = unused_of M s i (get_or rs i none) A.unused (G.kept.slot i)

        slot : Slot M s i r
        slot =
            waits (record { live = refl; source = A.from; destination = A.to; apart = A.apart; some = A.some; most = A.most })
            (record { rear = refl; front = refl; waiting = refl; eaten = refl; nothing = before.1 })

        more : (test : Bool) (x y : ℕ) → x + pick test (left_of M s i (get_or rs i none)) 0 ≡ y + pick test (left_of M s i r) 0 → 0 + x ≡ pick test (owes C a b f) 0 + y
        more true x y h = omega (arith, h, unused_left M s i (get_or rs i none) (G.kept.slot i) before.0, owing s i a b f before.1)
        more false x y h = omega (arith, h)

    -- ---- every call
    pub called : (c : Call) → Right c
    called (offering a b f) = by (ℕ_discrete (offers C R rule m a b f).answer.refusal 0)
      where
        by : Dec ((offers C R rule m a b f).answer.refusal ≡ 0) → Right (offering a b f)
        by (yes e) = taken a b f e
        by (no ne) =
            let same = answers.untaken C R rule m.words rs a b f ne in
            let o = (offers C R rule m a b f).answer in
            rw (same.0, same.1) (G, λ test. rw (refused o.refusal (test o.«record») (owes C a b f) ne) refl)
    called (moving v) = by (ℕ_discrete (moves C R rule m v).answer 0)
      where
        by : Dec ((moves C R rule m v).answer ≡ 0) → Right (moving v)
        by (yes e) = moved v e
        by (no ne) =
            let same = answers.unmoved C R rule m.words rs v.packet v.kind v.channel v.direction ne in
            rw (same.0, same.1) (G, λ test. rw (refused (moves C R rule m v).answer (test v.packet) 1 ne) refl)

    -- no call refuses the memory by 9
    pub ranged : T (fits C R rule m.words rs)
    ranged = ranges (net C R rule) one_deep (house_ranked (rule_of rule) C R 0) s rs G.kept

    -- while a record is live some move is accepted
    pub some_move : bad_size C R rule (needed C R) count ≡ 0 → (i : ℕ) → (get_or rs i none).live ≢ 0 → (v : Move) × ((moves C R rule m v).answer ≡ 0)
    some_move size i live =
        let A = goes_on M s rs G.kept i live in
        let j = A.packet in
        let W = written (net C R rule) one_deep (house_ranked (rule_of rule) C R 0) s j (get_or rs j none) A.after A.step in (
          record { packet = j; kind = W.kind; channel = W.channel; direction = W.direction },
          answers.accepted C R rule m.words rs j W.kind W.channel W.direction (rw (G.long, G.many) size)
              ranged A.low W.known A.fine.live W.may,
        )
