-- A turn as the code tries it on one packet is the move of the whole machine: by the cases of its being accepted. Assumes nothing.
use Prim.Native.Nat.{ℕ, suc, ◌+◌, ◌<◌}
use mathlib.Core.Path.{◌≡◌, sym, ◌∙◌, ap, subst}
use mathlib.Core.Bool.{Bool, true, false, ◌&&◌}
use mathlib.Core.List.{List}
use native.Mathlib.Omega.{arith}
use lib.Dec.{T, eqb}
use lib.ListN.{length, set, get_or}
use mir.Facts.{and_yes, yes_and, eqb_yes, yes_eqb}
use Rattle.route.specs.declared.meshes.Mesh.{Mesh as Coded}
use Rattle.route.specs.Mesh.{Mesh, ruled}
use Rattle.route.specs.Numbers.{channels, rule_of}
use Rattle.route.specs.Coded.{meant}
use Rattle.wormhole.specs.declared.records.Record.{Record}
use Rattle.wormhole.specs.Memory.{Net, net, Sections, sections, joined, none}
use Rattle.wormhole.specs.Steps.{known, may, act}
use Rattle.wormhole.specs.Calls.{allowed, move}
use Rattle.wormhole.specs.Drains.{Move, moving, any, moves, makes}
use Rattle.wormhole.specs.Coded.{built, laid}
use Rattle.wormhole.proofs.Sections.{rejoined}
use Rattle.wormhole.proofs.Draining.Answers as answers
use Rattle.report.specs.declared.turns.Counted.{Counted}
use Rattle.report.specs.Sweeps.{Tally, tried}
use Rattle.report.specs.Coded.{recs, counts, tally, Attempt, Reached}
use Rattle.report.proofs.Counting.{length_recs, recs_set, recs_at, counts_set, counts_at}
use Rattle.report.proofs.Reaching.{many, sized, fit}
use Rattle.report.proofs.Tracing.{refused}

-- what the machine leaves of a move, and one move more
unfoldable pub made_by : Net → Sections → Move → Counted → Attempt
made_by N s v c =
    let after = act N s v.packet c.packet v.kind v.channel v.direction in
    record { words = after.words; counted = record { packet = after.packet; moves = suc c.moves } }

-- ---- the machine's answer, by the tests that the code makes
module _ (C R rule : ℕ) (S : Tally) (H : Reached C R rule S) (v : Move) (low : v.packet < 64) where
  abbrev w : List ℕ
  w = S.lent.words

  abbrev rs : List Record
  rs = S.lent.records

  abbrev r : Record
  r = get_or rs v.packet none

  abbrev asked : Bool
  asked = known (net C R rule).mesh v.kind v.channel v.direction && allowed (net C R rule) (sections (channels C R) w) v.packet r v.kind v.channel v.direction

  answers_yes : T asked → (moves C R rule S.lent v).answer ≡ 0
  answers_yes t =
      let k = known (net C R rule).mesh v.kind v.channel v.direction in
      let m = may (net C R rule) (sections (channels C R) w) v.packet r v.kind v.channel v.direction in
      let a = and_yes k (eqb r.live 1 && m) t in
      let b = and_yes (eqb r.live 1) m a.1 in
      answers.accepted C R rule w rs v.packet v.kind v.channel v.direction (sized C R rule S H) (fit C R rule S H) (omega (arith, low, many C R rule S H)) a.0 (eqb_yes b.0) b.1

  answers_no : (T asked → ⊥) → (moves C R rule S.lent v).answer ≡ 0 → ⊥
  answers_no h e =
      let k = known (net C R rule).mesh v.kind v.channel v.direction in
      let m = may (net C R rule) (sections (channels C R) w) v.packet r v.kind v.channel v.direction in
      let g = answers.moved C R rule w rs v.packet v.kind v.channel v.direction e in
      h (yes_and k (eqb r.live 1 && m) g.known (yes_and (eqb r.live 1) m (yes_eqb g.live) g.may))

-- ---- one turn
module _ (C R rule : ℕ) (w : List ℕ) (cs : List Counted) (H : Reached C R rule (tally w cs)) (v : Move) (low : v.packet < length cs) (d : Counted) where
  abbrev S : Tally
  S = tally w cs

  abbrev c : Counted
  c = get_or cs v.packet d

  abbrev s : Sections
  s = sections (channels C R) w

  abbrev few : v.packet < 64
  few = omega (arith, low, many C R rule S H, length_recs cs)

  same : get_or (recs cs) v.packet none ≡ c.packet
  same = recs_at cs v.packet d low

  -- the tests, as the code makes them
  module _ (m : Coded) (em : meant m ≡ ruled (rule_of rule) C R 0) {b : Bool} (eb : b ≡ known (meant m) v.kind v.channel v.direction && allowed (built m) (laid m w) v.packet c.packet v.kind v.channel v.direction) where
    same_tests : asked C R rule S H v few ≡ b
    same_tests =
        let ec : m.columns ≡ C = ap (λ (n : Mesh). n.columns) em in
        let er : m.rows ≡ R = ap (λ (n : Mesh). n.rows) em in
        rw same (sym (rw (em, ec, er) at eb))

    -- a turn that is refused leaves all as it is
    pub no_turn : b ≡ false → tally w cs ≡ tried C R rule S v
    no_turn h =
        let off : asked C R rule S H v few ≡ false = same_tests ∙ h in
        sym (refused C R rule S v (answers_no C R rule S H v few (λ t. subst T off t)))

    -- what is made of a packet is what the machine makes of all
    pub one_turn : b ≡ true → (w' : List ℕ) (q : Counted) → record { words = laid m w'; counted = q } ≡ made_by (built m) (laid m w) v c
        → tally w' (set cs v.packet q) ≡ tried C R rule S v
    unfolding tried made_by
    one_turn h w' q e =
        let ec : m.columns ≡ C = ap (λ (n : Mesh). n.columns) em in
        let er : m.rows ≡ R = ap (λ (n : Mesh). n.rows) em in
        let f : record { words = sections (channels C R) w'; counted = q } ≡ made_by (net C R rule) s v c = rw (em, ec, er) at e in
        let z = answers_yes C R rule S H v few (subst T (sym (same_tests ∙ h)) tt) in
        let g = answers.moved C R rule w (recs cs) v.packet v.kind v.channel v.direction z in
        let o = move C R rule w (recs cs) v.packet v.kind v.channel v.direction in
        let ew : w' ≡ o.words =
        sym (rejoined (channels C R) w') ∙ (ap (λ (a : Attempt). joined a.words) f ∙ rw (← same) (sym g.words)) in
        let er : recs (set cs v.packet q) ≡ o.records =
        recs_set cs v.packet q ∙ (ap (λ (a : Attempt). set (recs cs) v.packet a.counted.packet) f ∙ rw (← same) (sym g.records)) in
        let ec : counts (set cs v.packet q) ≡ set (counts cs) v.packet (get_or (counts cs) v.packet 0 + makes C R rule any S.lent (moving v)) =
        counts_set cs v.packet q ∙ (ap (λ (a : Attempt). set (counts cs) v.packet a.counted.moves) f ∙ rw (z, counts_at cs v.packet d low) (ap (set (counts cs) v.packet) (omega arith))) in
        λ i. record { lent = record { words = ew i; records = er i }; made = ec i }
