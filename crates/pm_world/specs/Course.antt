-- How a step moves the ghosts on: a draw adds a call to the history; the drain of a deciding store decides one, and makes chunks runs; occupancy bits change
-- hands; chunks become one claim, or get a class.
use Rattle.std.specs.Prelude.{ℕ, suc, ◌/◌, ◌*◌, ◌+◌, Bool, true, false, cond, ◌&&◌, ◌||◌, nat_lt, List, [], ◌∷◌, Option, None, Some}
use Rattle.pm_layout.specs.declared.shape.Shape.{Shape}
use Rattle.pm_layout.specs.Sizes.{blocks_of}
use Rattle.pm_view.specs.declared.occ.Occ.{Occ}
use Rattle.pm_view.specs.declared.occ.Occ.TheVariants.{Run, Zone}
use Rattle.pm_view.specs.Changes.{Undrained, drained}
use Rattle.pm_view.specs.Places.{Block, Small, Big, Root, Geometry}
use Rattle.pm_view.specs.Entries.{latest, redos, turn}
use Rattle.pm_view.specs.Parts.{Part, DescriptorPart}
use Rattle.pm_view.specs.Log.{Phase, Idle, Open, Sealing, Retiring, phase_drawn}
use Rattle.pm_view.specs.Claims.{Claim, becomes, class, is_block_of, is_among, lowest, ones}
use Rattle.pm_view.specs.Steps.{Step}
use Rattle.pm_view.specs.Steps.Step.{Store, Drain, Occupy, Vacate, Draw}
use Rattle.pm_view.specs.View.{View}
use Rattle.pm_view.specs.Views.{part_in}
use Rattle.pm_world.specs.States.{claimed, put1}
use Rattle.pm_world.specs.World.{Past}

-- ---- the draw: a call that has nothing to be decided is so at once
abbrev pub is_idle : Phase → Bool
is_idle Idle = true
is_idle phase = false

abbrev pub past_drawn : Past → View → Past
past_drawn g v = record g {
  drew = put1 g.drew g.length v;
  length = suc g.length;
  decided = put1 g.decided g.length (is_idle (phase_drawn g.length v.log.records v.log.entries));
}

-- ---- drains: whose blocks are that are not allocated, where chunks became runs and where a call was decided
abbrev pub holder_made : Shape → ℕ → List Undrained → List Claim → (Block → ℕ) → Block → ℕ
holder_made sh k left t holder (Small c i) = cond (becomes sh left t c && nat_lt i (blocks_of (class t c))) (suc k) (holder (Small c i))
holder_made sh k left t holder (Big c) = cond (becomes sh left t c) 0 (holder (Big c))
holder_made sh k left t holder Root = holder Root

abbrev pub holder_after : ℕ → Option Bool → ℕ → ℕ
holder_after k None x = x
holder_after k (Some true) x = 0
holder_after k (Some false) x = suc k

abbrev pub past_made : Past → View → List Undrained → Past
past_made g v left = record g {
  runs = λ c. becomes v.fixed.shape left v.claims c || g.runs c;
  holder = holder_made v.fixed.shape v.fixed.lane left v.claims g.holder;
}

abbrev pub past_decided : Phase → View → Past → Past
past_decided (Sealing n) v g = record g { decided = put1 g.decided n true; holder = λ B. holder_after v.fixed.lane (turn (latest (redos v.log.entries)) B) (g.holder B) }
past_decided (Retiring n) v g = record g { decided = put1 g.decided n true }
past_decided phase v g = g

abbrev pub past_drained : Past → View → List Undrained → Past
past_drained g v [] = past_decided v.log.phase v (past_made g v [])
past_drained g v (u ∷ left) = past_made g v (u ∷ left)

-- ---- occupancy bits
abbrev pub geometry_occupied : Occ → ℕ → Geometry → Geometry
geometry_occupied (Run place) bits G = G
geometry_occupied (Zone zone) bits G = claimed G (64 * zone + lowest 64 bits) (ones 64 bits)

abbrev pub past_occupied : Bool → Past → View → Occ → ℕ → Past
past_occupied false g v at bits = g
past_occupied true g v at bits = record g {
  geo = geometry_occupied at bits g.geo;
  holder = λ B. cond (is_block_of v.fixed.shape at bits B) (suc v.fixed.lane) (g.holder B);
}

abbrev pub past_vacated : Past → View → Occ → ℕ → Past
past_vacated g v at bits = record g { holder = λ B. cond (is_among v.fixed.shape at bits B) 0 (g.holder B) }

-- ---- the store of a run's descriptor
abbrev pub past_stored : Phase → Part → ℕ → Past → Past
past_stored Open (DescriptorPart c) x g = record g { geo = record g.geo { class = put1 g.geo.class c (x / 256) } }
past_stored phase part x g = g

-- THE GHOSTS AFTER A STEP
abbrev pub past_after : Past → View → Step → Past
past_after g v (Store w x) = past_stored v.log.phase (part_in v w) x g
past_after g v Drain = past_drained g v (drained v.changes)
past_after g v (Occupy at bits won) = past_occupied won g v at bits
past_after g v (Vacate at bits) = past_vacated g v at bits
past_after g v (Draw n) = past_drawn g v
past_after g v s = g
