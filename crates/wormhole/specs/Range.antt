-- When memory is in range: refusal 9 is given exactly if it is not. Assumes nothing.
use Rattle.std.specs.Prelude.{ℕ, ◌*◌, Bool, true, not, ◌&&◌, List, [], ◌∷◌, leb, ltb, eqb, length}
use Rattle.route.specs.Grid.{pick}
use Rattle.route.specs.Mesh.{Mesh}
use Rattle.route.specs.Channels.{is_channel}
use Rattle.wormhole.specs.declared.records.Record.{Record}
use Rattle.wormhole.specs.Memory.{Net, Sections, named}

-- a test holds of each element of a list
unfoldable pub every : {A : Type 0} → (A → Bool) → List A → Bool
every test [] = true
every test (x ∷ xs) = test x && every test xs

-- a word is at most so great
unfoldable pub at_most : ℕ → ℕ → Bool
at_most top x = leb x top

-- a word is 0, or names a channel that exists
abbrev pub names : Mesh → ℕ → Bool
names m x = named x true (is_channel m)

-- the words of a memory with so many records
unfoldable pub words_fit : Net → ℕ → Sections → Bool
words_fit N count s =
    every (at_most count) s.owner && (every (at_most N.depth) s.holds && every (names N.mesh) s.next)

-- a record that is not live is all zero
abbrev pub blank : Record → Bool
blank r =
    eqb r.source 0
    && (eqb r.destination 0 && (eqb r.flits 0 && (eqb r.waiting 0 && (eqb r.eaten 0 && (eqb r.rear 0 && eqb r.front 0)))))

-- flits of a packet are 1 to 200
abbrev pub flits_served : ℕ → Bool
flits_served f = leb 1 f && leb f 200

-- a live record has two different nodes of the mesh, as many flits as are served, and neither count of them above that
abbrev pub packet_fits : Mesh → Record → Bool
packet_fits m r =
    let nodes = m.columns * m.rows in
    (ltb r.source nodes && ltb r.destination nodes)
    && (not (eqb r.source r.destination) && (flits_served r.flits && (leb r.waiting r.flits && leb r.eaten r.flits)))

-- a record: its rear and front, and what its being live or not asks
unfoldable pub record_fits : Mesh → Record → Bool
record_fits m r =
    (names m r.rear && names m r.front) && pick (eqb r.live 0) (blank r) (eqb r.live 1 && packet_fits m r)

-- all of a memory
abbrev pub in_range : Net → Sections → List Record → Bool
in_range N s rs = words_fit N (length rs) s && every (record_fits N.mesh) rs
