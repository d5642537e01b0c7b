-- What the answer of a call teaches: an accepted one passed every test and left what the step rules say, a refused one left memory as it was.
-- By the cases of the refusals. Assumes nothing.
use Prim.Native.Nat.{ℕ, zero, suc, ◌*◌, ◌≤◌, ◌<◌}
use mathlib.Core.Path.{◌≡◌, refl, sym, ◌∙◌}
use mathlib.Core.Bool.{Bool, not, ◌&&◌, ◌||◌}
use mathlib.Core.List.{List}
use mathlib.Core.Logic.{◌≢◌}
use lib.Dec.{T, leb, ltb, eqb}
use lib.ListN.{length, set, get_or}
use mir.Facts.{and_yes, yes_and, or_no, T_not-not, ltb_yes, leb_yes, leb_no, eqb_yes, eqb_no, yes_ltb, yes_eqb}
use borrow.Author.Tests.{le-ltb}
use Rattle.route.specs.Grid.{pick}
use Rattle.route.specs.Numbers.{channels}
use Rattle.route.specs.Served.{unless, bad_mesh}
use Rattle.route.proofs.Promises.{refuses}
use Rattle.wormhole.specs.declared.offers.Offered.{Offered}
use Rattle.wormhole.specs.declared.records.Record.{Record}
use Rattle.wormhole.specs.Memory.{net, sections, joined, none, fresh}
use Rattle.wormhole.specs.Range.{flits_served}
use Rattle.wormhole.specs.Steps.{known, may, act}
use Rattle.wormhole.specs.Calls.{Left, left, offered, needed, bad_size, bad_memory, fits, lowest, bad_packet, bad_offer, offer, bad_move, move}
use Rattle.wormhole.proofs.Surveying.{lowest_unused}
use Rattle.wormhole.proofs.Refusing.{none_first, none_if, none_unless, size_good, offering}

-- ---- refusals
-- what a call answers is its refusal
answers : {A : Type 0} (code : A → ℕ) (refuse : ℕ → A) (served : A) → ((k : ℕ) → code (refuse k) ≡ k) → code served ≡ 0
    → (k : ℕ) → code (unless refuse k served) ≡ k
answers code refuse served given free zero = free
answers code refuse served given free (suc k) = given (suc k)

module _ (C R rule : ℕ) (w : List ℕ) (rs : List Record) where
  -- the refusal of the memory
  abbrev memory : ℕ
  memory = bad_memory C R rule (length w) (length rs) (fits C R rule w rs)

  -- ---- a move
  -- one that is accepted
  pub record Moved (i kind k d : ℕ) : Type 0 where
    pub low : i < length rs
    pub known : T (known (net C R rule).mesh kind k d)
    pub live : (get_or rs i none).live ≡ 1
    pub may : T (may (net C R rule) (sections (channels C R) w) i (get_or rs i none) kind k d)
    pub words : (move C R rule w rs i kind k d).words ≡ joined (act (net C R rule) (sections (channels C R) w) i (get_or rs i none) kind k d).words
    pub records : (move C R rule w rs i kind k d).records
        ≡ set rs i (act (net C R rule) (sections (channels C R) w) i (get_or rs i none) kind k d).packet

  module _ (i kind k d : ℕ) where
    -- its tests: what it names can be
    abbrev nameable : Bool
    nameable = known (net C R rule).mesh kind k d

    -- the record is live
    abbrev living : Bool
    living = eqb (get_or rs i none).live 1

    -- the step rules allow it
    abbrev allowable : Bool
    allowable = may (net C R rule) (sections (channels C R) w) i (get_or rs i none) kind k d

    -- its refusal
    abbrev move_refusal : ℕ
    move_refusal = bad_move C R rule (length w) (length rs) (fits C R rule w rs) i kind k d (living && allowable)

    -- which is what it answers
    move_answers : (move C R rule w rs i kind k d).answer ≡ move_refusal
    unfolding move
    move_answers = answers (λ (o : Left ℕ). o.answer) (λ c. left c w rs) _ (λ c. refl) refl move_refusal

    -- none was given: it passed the tests
    pub moved : (move C R rule w rs i kind k d).answer ≡ 0 → Moved i kind k d
    unfolding move
    moved e =
        let z : move_refusal ≡ 0 = sym move_answers ∙ e in
        let asked = (none_if (ltb i (length rs) && nameable) 12 (pick (living && allowable) 0 8)).0 ((none_first memory _).0 z).1 in
        let named = and_yes (ltb i (length rs)) nameable asked.0 in
        let able = and_yes living allowable ((none_if (living && allowable) 7 0).0 asked.1).0 in
        record { low = ltb_yes named.0; known = named.1; live = eqb_yes able.0; may = able.1; words = rw z refl; records = rw z refl }

    -- one was given: nothing was stored
    pub unmoved : (move C R rule w rs i kind k d).answer ≢ 0
        → ((move C R rule w rs i kind k d).words ≡ w) × ((move C R rule w rs i kind k d).records ≡ rs)
    unfolding move
    unmoved h = rw (refuses (λ c. left c w rs) _ move_refusal (λ z. h (move_answers ∙ z))) (refl, refl)

    -- the tests are passed: none is given
    pub accepted : bad_size C R rule (length w) (length rs) ≡ 0 → T (fits C R rule w rs) → i < length rs → T (known (net C R rule).mesh kind k d)
        → (get_or rs i none).live ≡ 1 → T (may (net C R rule) (sections (channels C R) w) i (get_or rs i none) kind k d)
        → (move C R rule w rs i kind k d).answer ≡ 0
    accepted size fit low named live can =
        let fitting = (none_first (bad_size C R rule (length w) (length rs)) _).1 (size, (none_if (fits C R rule w rs) 8 0).1 (fit, refl)) in
        let able = (none_if (living && allowable) 7 0).1 (yes_and living allowable (yes_eqb live) can, refl) in
        let asked = (none_if (ltb i (length rs) && nameable) 12 _).1 (yes_and (ltb i (length rs)) nameable (yes_ltb low) named, able) in
        move_answers ∙ (none_first memory _).1 (fitting, asked)

  -- ---- an offer
  -- one that is accepted
  pub record Taken (a b f : ℕ) : Type 0 where
    pub from : a < C * R
    pub to : b < C * R
    pub some : 1 ≤ f
    pub most : f ≤ 200
    pub apart : a ≢ b
    pub low : lowest rs < length rs
    pub unused : (get_or rs (lowest rs) none).live ≡ 0
    pub number : (offer C R rule w rs a b f).answer.«record» ≡ lowest rs
    pub words : (offer C R rule w rs a b f).words ≡ w
    pub records : (offer C R rule w rs a b f).records ≡ set rs (lowest rs) (fresh a b f)

  module _ (a b f : ℕ) where
    -- its refusal
    abbrev offer_refusal : ℕ
    offer_refusal = bad_offer C R rule (length w) (length rs) (fits C R rule w rs) (lowest rs) a b f

    -- which is what it answers
    offer_answers : (offer C R rule w rs a b f).answer.refusal ≡ offer_refusal
    unfolding offer
    offer_answers = answers (λ (o : Left Offered). o.answer.refusal) (λ c. left (offered c 255) w rs) _ (λ c. refl) refl offer_refusal

    -- none was given: it passed the tests
    pub taken : (offer C R rule w rs a b f).answer.refusal ≡ 0 → Taken a b f
    unfolding offer
    taken e =
        let z : offer_refusal ≡ 0 = sym offer_answers ∙ e in
        let packet = bad_packet C R a b f in
        let nodes = none_unless (leb (C * R) a || leb (C * R) b) 2 _ ((none_first packet _).0 ((none_first memory _).0 z).1).0 in
        let flits = none_unless (not (flits_served f)) 5 _ nodes.1 in
        let ends = or_no (leb (C * R) a) (leb (C * R) b) nodes.0 in
        let few = and_yes (leb 1 f) (leb f 200) (T_not-not (flits_served f) flits.0) in
        record {
          from = leb_no ends.0;
          to = leb_no ends.1;
          some = leb_yes few.0;
          most = leb_yes few.1;
          apart = eqb_no (none_unless (eqb a b) 4 0 flits.1).0;
          low = (offering C R rule (length w) (length rs) (fits C R rule w rs) (lowest rs) a b f (sym z) refl).below;
          unused = lowest_unused rs;
          number = rw z refl;
          words = rw z refl;
          records = rw z refl;
        }

    -- one was given: nothing was stored
    pub untaken : (offer C R rule w rs a b f).answer.refusal ≢ 0
        → ((offer C R rule w rs a b f).words ≡ w) × ((offer C R rule w rs a b f).records ≡ rs)
    unfolding offer
    untaken h = rw (refuses (λ c. left (offered c 255) w rs) _ offer_refusal (λ z. h (offer_answers ∙ z))) (refl, refl)

-- ---- sizes that are served
pub sizes_served : (C R rule count : ℕ) → 2 ≤ C → C ≤ 16 → 2 ≤ R → R ≤ 16 → rule ≤ 4 → 1 ≤ count → count ≤ 64
    → bad_size C R rule (needed C R) count ≡ 0
sizes_served C R rule count c c' r r' five least most =
    let mesh : 0 ≡ bad_mesh C R rule = rw (le-ltb C 2 c, le-ltb 16 C c', le-ltb R 2 r, le-ltb 16 R r', le-ltb 4 rule five) refl in
    sym (size_good C R rule count mesh least most)
