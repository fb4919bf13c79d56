-- What a lane's view says of each line, block, chunk and place: point functions over its lists.
use Rattle.std.specs.Prelude.{ℕ, nat_lt, Bool, true, false, cond, not, ◌==◌, ◌&&◌, ◌||◌, List, [], ◌∷◌, Option, None, Some}
use Rattle.std.specs.Option.{option_map}
use Rattle.std.specs.Int.{bit_at}
use Rattle.pm_layout.specs.declared.shape.Shape.{Shape}
use Rattle.pm_layout.specs.Areas.{page_words, line_of_slot}
use Rattle.pm_view.specs.Changes.{Undrained, is_dirty_bit, is_in_line}
use Rattle.std.specs.List.{list_any}
use Rattle.pm_view.specs.Places.{Place, InRun, InHuge, Descr, RootWord, Block, is_data, block_of, word_of}
use Rattle.pm_view.specs.Entries.{latest, redos, turn}
use Rattle.pm_view.specs.Log.{Phase, Recorded, Log, old_in, old_of}
use Rattle.pm_view.specs.Claims.{Claim, locked, reads, class, making, found, here, mine, span, first, geometry, pictured}
use Rattle.pm_view.specs.View.{View}
use Rattle.pm_world.specs.States.{Diff, Call, given}

-- CLAIMS: lines locked for writing and for reading; blocks found under a lock of either kind (knowledge, and no right); blocks of its own, which are not
-- allocated; blocks found under a write lock; chunks that it makes runs; classes of runs that it knows; how many chunks a huge block of its own, or found, has, and the first
-- chunk of the block that a chunk is in
pub record Hold : Type 0 where
  pub locked : ℕ → Bool
  pub reads : ℕ → Bool
  pub found : Block → Bool
  pub mine : Block → Bool
  pub here : Block → Bool
  pub making : ℕ → Bool
  pub class : ℕ → ℕ
  pub span : ℕ → ℕ
  pub first : ℕ → ℕ

abbrev pub hold_of : Shape → List Claim → Hold
hold_of sh t = record { locked = locked t; reads = reads t; found = found sh t; mine = mine sh t; here = here sh t; making = making sh t; class = class t; span = span sh t; first = first sh t }

-- a place that may be data, within its chunk, or the root's offset: a lane's picture is of these
abbrev pub is_pictured : Place → Bool
is_pictured (InRun c w) = is_data (InRun c w) && nat_lt w page_words
is_pictured (InHuge c w) = nat_lt w page_words
is_pictured (Descr c) = false
is_pictured RootWord = true

-- the lane's picture of a place's bit
abbrev pub picture : Shape → List Claim → Diff
picture sh t p b = cond (is_pictured p) (option_map (λ x. bit_at x b == 1) (pictured sh t (word_of sh p))) None

-- the place is within its chunk and has the word's use: words of runs are such to a lane that knows the run; a descriptor that it stores itself is none of the pool's, but the run's
abbrev pub is_use : Hold → Place → Bool
is_use h (InRun c w) = nat_lt w page_words && not (h.class c == 0)
is_use h (InHuge c w) = nat_lt w page_words && (h.class c == 0)
is_use h (Descr c) = not (h.making c)
is_use h RootWord = true

-- an undrained change of the lane covers the place's bit
abbrev pub is_soiled : Shape → Hold → List Undrained → Place → ℕ → Bool
is_soiled sh h changes p b = is_use h p && is_dirty_bit changes (word_of sh p) b

-- a record covers the place, and so does one whose slot is drained
abbrev pub is_recorded : List Recorded → Place → Bool
is_recorded records p = given (old_of records p)

abbrev pub is_slot_drained : Shape → ℕ → List Undrained → ℕ → Bool
is_slot_drained sh lane changes j = not (list_any (is_in_line (line_of_slot sh lane j)) changes)

abbrev pub is_logged_from : Shape → ℕ → List Undrained → ℕ → List Recorded → Place → Bool
is_logged_from sh lane changes j [] p = false
is_logged_from sh lane changes j (r ∷ t) p = (given (old_in r p) && is_slot_drained sh lane changes j) || is_logged_from sh lane changes (Rattle.std.specs.Prelude.suc j) t p

abbrev pub is_logged : Shape → ℕ → List Undrained → List Recorded → Place → Bool
is_logged sh lane changes records p = is_logged_from sh lane changes 0 records p

-- what the call made final by stores: words of blocks that it allocates, and recorded ones
abbrev pub is_made : Option Bool → Bool
is_made None = false
is_made (Some made) = made

abbrev pub fresh : Shape → List Claim → Log → Diff
fresh sh t log p b = cond (is_data p && (is_made (turn (latest (redos log.entries)) (block_of (geometry sh t) p b)) || is_recorded log.records p)) (picture sh t p b) None

abbrev pub call_of : Shape → List Claim → Log → Call
call_of sh t log = record { entries = redos log.entries; fresh = fresh sh t log }

abbrev pub call_in : View → Call
call_in v = call_of v.fixed.shape v.claims v.log

-- WHAT THE WORLD SAYS OF A LANE IS SAID OF THESE
pub record Sight : Type 0 where
  pub hold : Hold
  pub phase : Phase
  pub call : Call
  pub picture : Diff
  pub logged : Place → Bool
  pub soiled : Place → ℕ → Bool

abbrev pub sight_by : Shape → ℕ → List Claim → Log → List Undrained → Sight
sight_by sh lane t log changes = record {
  hold = hold_of sh t;
  phase = log.phase;
  call = call_of sh t log;
  picture = picture sh t;
  logged = is_logged sh lane changes log.records;
  soiled = is_soiled sh (hold_of sh t) changes;
}

abbrev pub sight_of : View → Sight
sight_of v = sight_by v.fixed.shape v.fixed.lane v.claims v.log v.changes
