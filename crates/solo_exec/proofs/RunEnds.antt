-- What a run comes to: its history, the memory calls that it made, and the pool that its image means.
use Rattle.std.proofs.Common.{◌&&◌, ◌≡◌, ◌≢◌, ⊎_elim, inl, ℕ, ◌+◌, ◌*◌, ◌<◌, ◌≤◌, ◌^◌, All, Bool, not, eqb, List, [], ◌∷◌, ◌++◌, length, map, take, Option, slice_index, slice_index_or, refl, sym, ap, ◌∙◌, subst, arith, append-nil}
use Rattle.std.specs.List.Sorted.{IsStrictlyIncreasing}
use Rattle.std.specs.Option.{ForSome}
use Rattle.std.proofs.Math.Seq.{take-length}
use Rattle.std.proofs.lemmas.Bool.{lt-ltb}
use Rattle.std.proofs.lemmas.List.{length-map, map-append, take-append-le}
use Rattle.solo_crash.proofs.AloneImages.{calls_meant, header_stays, size_stays}
use Rattle.solo_crash.proofs.AtRest.{none_torn_at_rest}
use Rattle.solo_crash.proofs.SeenAlone.{image_where_seen, works_where_seen}
use Rattle.solo_crash.specs.Alone.{Begins, BeginsAlone, MeansCalls, WorksAlone, alone_views, kept_numbered, standing}
use Rattle.pm_header.specs.declared.header.Header.{Header}
use Rattle.pm_image.specs.Blocks.{blocks}
use Rattle.pm_image.specs.Contents.{offset_in}
use Rattle.pm_image.specs.Logs.{recovered_at}
use Rattle.pm_image.specs.Means.{IsMeaning}
use Rattle.solo_memory.specs.Keep.{IsKeptImage}
use Rattle.solo_model.specs.History.{is_lost}
use Rattle.pm_objects.specs.Pool.{offsets}
use Rattle.pm_objects.specs.declared.history.Entry.{Entry}
use Rattle.pm_objects.specs.declared.pool.PoolView.{PoolView}
use Rattle.solo_transaction.proofs.LeftCommits.{drawn_meant, drawn_page, drawn_size}
use Rattle.solo_transaction.specs.Published.{HasDrawn}
use Rattle.solo_view.specs.Steps.{Step}
use Rattle.pm_recover.proofs.Meaning.{page_stands}
use Rattle.pm_recover.proofs.Sound.{header_if_meaning, sound_if_meaning}
use Rattle.pm_recover.specs.Recovery.{IsRecovered}
use Rattle.solo_script.specs.declared.script.ScriptLine.{ScriptLine}
use Rattle.solo_view.proofs.SameLane.{same_lane, same_lane-then}
use Rattle.solo_view.specs.Constants.{IsSameLane}
use Rattle.solo_view.specs.View.{View}
use Rattle.solo_world.specs.Crash.{NoneTorn, loses}
use Rattle.solo_world.specs.Opening.{Opening}
use Rattle.solo_world.specs.declared.lane.Lane.{Lane}
use Rattle.solo_memory.specs.Solo.{Solo}
use Rattle.solo_view.specs.Counts.{among}
use Rattle.solo_exec.specs.Bounds.{stores_of_script}
use Rattle.solo_exec.proofs.FewStores.{bounded, calls_bounded, walked}
use Rattle.solo_exec.specs.Calls.{call_of, names_of, numbers_of, call_lines}
use Rattle.solo_exec.specs.Histories.{closed_history}
use Rattle.solo_exec.specs.Openings.{first_view, opening_of}
use Rattle.solo_crash.specs.Leading.{Leads}
use Rattle.solo_exec.specs.Course.{CallsMade}
use Rattle.solo_exec.specs.Progress.{IsCutAtWork, IsCutPublishing, IsStart}
use Rattle.solo_made.specs.Made.{BlockLists}
use Rattle.solo_pending.specs.declared.pending.PendingActions.{PendingActions}
use Rattle.solo_exec.specs.Replies.{AreEntries}
use Rattle.solo_exec.specs.Running.{HasComeTo, HasClosed, MayRun, MayStart}
use Rattle.solo_exec.specs.Runs.{IsHistoryOf, LeavesReplay, MakesCalls}
use Rattle.solo_exec.specs.Torn.{HasNoTornMatch}
use Rattle.solo_exec.specs.declared.calls.Names.{Names}
use Rattle.solo_exec.specs.declared.running.Halt.{Halt}
use Rattle.solo_exec.proofs.EndedRuns.{HasRested, IsCutAt, IsEnded, ended_run}
use Rattle.solo_exec.proofs.Opened.{begins_alone, means_so, shape_of, size_of, words_long}
use Rattle.solo_exec.proofs.RisingCalls.{call_lines_rise}
use Rattle.solo_exec.proofs.ShownHistories.{as_many, as_many_numbered, calls_are, numbers_count, shown_replay}
use Rattle.solo_exec.proofs.StoppedEnd.{within_stop}
use Rattle.solo_exec.proofs.Untorn.{none_torn_where_stopped}

-- before the first call none was answered
begins_run : (pool : PoolView) (words : List ℕ) (stop : Option ℕ) (lane : Lane Solo) (blocks : BlockLists) (actions : PendingActions) (names : Names) (history : List Entry) → history ≡ [] → IsStart (opening_of pool words) lane blocks actions (first_view pool words stop)
    → HasComeTo (opening_of pool words) (first_view pool words stop) lane blocks actions names [] history
unfolding Leads CallsMade among
begins_run pool words stop lane blocks actions names history none is = record {
  header = is.header;
  pool = is.pool;
  begins = is.begins;
  answered = record {
    view = first_view pool words stop;
    called = record {
      are = subst (λ (es : List Entry). AreEntries names [] es []) (sym none) tt;
      again = λ header pool begins. begins;
      page = λ header pool begins i low. refl;
      same = same_lane (first_view pool words stop);
      made = subst (λ (es : List Entry). CallsMade names [] es (first_view pool words stop) (first_view pool words stop)) (sym none) refl;
      bound = walked (first_view pool words stop) (first_view pool words stop) 0 [] refl (omega arith);
    };
    rests = is.rests;
    idle = refl;
    keeps = is.keeps;
    pages = is.pages;
    pending = is.pending;
  };
}

pub run_begins : (pool : PoolView) (words : List ℕ) (stop : Option ℕ) (lane : Lane Solo) (names : Names) (history : List Entry) → history ≡ [] → MayStart (opening_of pool words) (first_view pool words stop) lane
    → MayRun (opening_of pool words) (first_view pool words stop) lane names history
run_begins pool words stop lane names history none may =
    record { of_shape = may.of_shape; begins = λ blocks actions pages nothing. begins_run pool words stop lane blocks actions names history none (may.starts blocks actions pages nothing) }

-- the same of names and lines that are given otherwise
pub run_of : (o : Opening) (first : View) (lane : Lane Solo) (history : List Entry) (halt : Halt) (names other : Names) (lines script : List ScriptLine) → names ≡ other → lines ≡ script
    → HasClosed o first lane names (call_lines lines) history halt → HasClosed o first lane other (call_lines script) history halt
run_of o first lane history halt names other lines script named are run =
    subst (λ (ns : Names). HasClosed o first lane ns (call_lines script) history halt) named (subst (λ (ls : List ScriptLine). HasClosed o first lane names (call_lines ls) history halt) are run)

-- recovery leaves the header page, but for the root's word
page_recovered : (image words : List ℕ) (pool : PoolView) → IsMeaning image pool → IsRecovered image words pool.lanes → (i : ℕ) → i < 512 → i ≢ 64 → slice_index words i ≡ slice_index image i
page_recovered image words pool means is i low other =
    is.words i (inl (omega (arith, low))) ∙ page_stands image pool.lanes i (sound_if_meaning image pool means) (header_if_meaning image pool means) low other

-- two pools of one length have as many lanes, and as many zones
one_zones : (size lanes zones other_lanes other_zones : ℕ) → size ≡ 512 + 1024 * lanes + 33280 * zones → size ≡ 512 + 1024 * other_lanes + 33280 * other_zones → lanes ≤ 32 → other_lanes ≤ 32 → zones ≡ other_zones
one_zones size lanes zones other_lanes other_zones one other few other_few = omega (arith, one, other, few, other_few)

one_lanes : (size lanes zones other_lanes other_zones : ℕ) → size ≡ 512 + 1024 * lanes + 33280 * zones → size ≡ 512 + 1024 * other_lanes + 33280 * other_zones → zones ≡ other_zones → lanes ≡ other_lanes
one_lanes size lanes zones other_lanes other_zones one other same = omega (arith, one, other, same)

-- the first of mapped parts
front_mapped : (names : Names) (xs ys : List (List ScriptLine)) (n : ℕ) → n ≡ length xs → map (call_of names) xs ≡ take n (map (call_of names) (xs ++ ys))
front_mapped names xs ys n is =
    let long = length-map xs (call_of names) in
    sym (ap (λ (k : ℕ). take k (map (call_of names) (xs ++ ys))) is
    ∙ (ap (take (length xs)) (map-append (call_of names) xs ys)
    ∙ (take-append-le (length xs) (map (call_of names) xs) (map (call_of names) ys) (omega (arith, long))
    ∙ (ap (λ (k : ℕ). take k (map (call_of names) xs)) (sym long) ∙ take-length (map (call_of names) xs)))))

module _ (pool : PoolView) (words : List ℕ) (stop : Option ℕ) (script : List ScriptLine) (rising : IsStrictlyIncreasing (numbers_of script)) (fits : ForSome stop (λ n. n < 2 ^ 64)) (lane : Lane Solo) (history : List Entry)
    (halt : Halt) (run : HasClosed (opening_of pool words) (first_view pool words stop) lane (names_of pool) (call_lines script) history halt) (decided : Bool) where
  abbrev o : Opening
  o = opening_of pool words

  abbrev first : View
  first = first_view pool words stop

  abbrev names : Names
  names = names_of pool

  abbrev closed : List Entry
  closed = closed_history history halt.is_open decided

  e : IsEnded o first lane names (call_lines script) decided halt.generation closed halt.end
  e = ended_run o first names (call_lines script) (call_lines_rise script rising) decided lane history halt fits run

  pub run_history : IsHistoryOf pool script stop closed halt.end
  run_history = record {
    is_history = record {
      numbered = number_at;
      answered = λ j k d before low same. let most = e.most in e.fates j d (omega (arith, before, low)) ∙ lt-ltb j (length e.answered) (omega (arith, before, low, most));
    };
    calls = calls_are names e.numbered closed e.last.entries e.shown ∙ front_mapped names e.numbered e.rest (length closed) (as_many names e.numbered closed e.last.entries e.shown) ∙ ap (λ (calls : List (List ScriptLine)). take (length closed) (map (call_of names) calls)) (sym e.calls_are);
    whole = λ ended.
        as_many names e.numbered closed e.last.entries e.shown
        ∙ sym (ap (λ (calls : List (List ScriptLine)). length (map (call_of names) calls)) (e.calls_are ∙ ap (λ (rest : List (List ScriptLine)). e.numbered ++ rest) (e.whole ended) ∙ append-nil e.numbered) ∙ length-map e.numbered (call_of names));
    answered = λ unstopped k d low. let many = e.unstopped unstopped in e.fates k d low ∙ lt-ltb k (length e.answered) (omega (arith, low, many));
    at_stop = e.at_stop;
  } where
    number_at : (k : ℕ) (d : Entry) → k < length closed → (slice_index_or closed k d).number ≡ k + 1
    number_at = numbers_count names e.numbered closed e.last.entries 1 e.shown e.seen.numbers

  module _ (keep : ℕ) (left : List ℕ) (kept : IsKeptImage keep lane.memory.words (lane.memory.changes ∷ []) left) where
    image_kept : IsKeptImage keep e.last.words (e.last.changes ∷ []) left
    image_kept = image_where_seen lane.memory e.last keep left e.seen kept

    same : IsSameLane first e.last
    same = same_lane-then first e.middle e.last e.called.same e.same

    pub run_size : length left ≡ length words
    run_size = image_kept.size ∙ same.size

    module _ (decides : decided ≡ not (eqb (slice_index left 513) 0 && eqb (slice_index left 512) halt.generation)) where
      losses : (header : Header) → BeginsAlone o header pool first → All (λ (x : Entry). is_lost x.fate ≡ loses left e.last x.number) closed
      losses header begins k d low = e.fated header pool begins keep left image_kept decides k d low

      pub run_made : MakesCalls words pool script stop keep closed halt.end left
      run_made = record {
        answered = e.answered;
        behind = e.behind;
        are = e.are;
        ended = e.settled;
        rest = e.others;
        are_ended = e.settled_first;
        middle = e.middle;
        made = e.called.made;
        told = e.called.are;
        last = e.last;
        ends = e.ends;
        unanswered = e.unanswered;
        within = within_stop first e.last lane.memory same e.seen;
        image = image_kept;
        bound = bounded first e.last (stores_of_script names script) refl e.bound;
        few = calls_bounded first e.last (stores_of_script names script) refl (bounded first e.last (stores_of_script names script) refl e.bound);
        numbers = as_many_numbered names e.numbered closed e.last.entries e.shown;
        fates = e.fates;
        losses = losses;
      }

      module _ (before : List ℕ) (means : IsMeaning before pool) (recovered : IsRecovered before words pool.lanes) (none : HasNoTornMatch words pool script stop) where
        abbrev header : Header
        header = (means_so before pool means words recovered stop).header

        begins : BeginsAlone o header pool first
        begins = begins_alone before pool means words recovered stop

        -- behind the last call that was answered the lane began again: what it makes from there on is all that matters
        abbrev here : Opening
        here = standing o e.middle

        again : Begins here header pool e.middle
        again = e.called.again header pool (inl begins)

        -- what is left means the pool to which the calls lead that it does not lose, with the header page and the length of the words before the last call
        record IsLeft : Type 0 where
          meant : MeansCalls left pool.lanes pool.zones pool (kept_numbered left e.last)
          page : (i : ℕ) → i < 512 → slice_index left i ≡ slice_index e.middle.words i
          size : length left ≡ length e.middle.words

        -- of what a power failure leaves where the lane worked alone since then, up to its last view
        module _ (steps : List Step) (leads : Leads e.middle steps e.last) (torn : NoneTorn here (alone_views here e.last) left) where
          works : WorksAlone here header pool e.middle steps e.last
          works = works_where_seen here header pool lane.memory e.middle e.last steps again leads e.seen

          left_at_work : IsLeft
          left_at_work = record {
            meant = calls_meant here header pool e.middle e.last steps works keep left image_kept torn;
            page = header_stays here header pool e.middle e.last steps works keep left image_kept;
            size = size_stays here header pool e.middle e.last steps works keep left image_kept;
          }

        left_publishing : (n : ℕ) → HasDrawn here header pool n e.last → IsLeft
        left_publishing n has = record {
          meant = drawn_meant here header pool n e.last has keep left image_kept;
          page = drawn_page here header pool n e.last has keep left image_kept;
          size = drawn_size here header pool n e.last has keep left image_kept;
        }

        -- in the call that it made last
        module _ (c : IsCutAt o first lane names (call_lines script) e.middle e.last) where
          left_at_stop : IsLeft
          left_at_stop = ⊎_elim
              (λ (cut : IsCutAtWork here e.middle names c.lines c.values c.cut.view).
              left_at_work cut.steps (subst (Leads e.middle cut.steps) (sym c.is) cut.leads)
              (subst (λ (w : View). IsKeptImage keep w.words (w.changes ∷ []) left → NoneTorn here (alone_views here w) left) (sym c.is)
              (λ cut_kept.
              none_torn_where_stopped pool e.middle header pool lane.memory c.cut.view c.lines c.values again c.cut.seen cut
              (λ front rest is. none c.answered c.behind c.lines front rest c.history e.middle c.are c.called.made is) keep left cut_kept)
              image_kept))
              (λ (cut : IsCutPublishing here e.middle names c.lines c.values c.cut.view).
              left_publishing cut.flight.number (subst (HasDrawn here header pool cut.flight.number) (sym c.is) (cut.publishing header pool again).has))
              c.cut.way

        left_so : IsLeft
        left_so = ⊎_elim
            (λ (r : HasRested e.middle e.last). left_at_work r.steps r.leads (none_torn_at_rest here e.last left r.rests))
            (λ (c : IsCutAt o first lane names (call_lines script) e.middle e.last). left_at_stop c)
            e.stands

        meant : MeansCalls left pool.lanes pool.zones pool (kept_numbered left e.last)
        meant = left_so.meant

        page : (i : ℕ) → i < 512 → slice_index left i ≡ slice_index words i
        page i low = left_so.page i low ∙ e.called.page header pool (inl begins) i low

        left_long : length left ≡ 512 + 1024 * pool.lanes + 33280 * pool.zones
        left_long = left_so.size ∙ e.called.same.size ∙ words_long before pool means words recovered

        last_long : length left ≡ 512 + 1024 * meant.last.lanes + 33280 * meant.last.zones
        last_long = size_of left meant.last meant.means

        last_zones : pool.zones ≡ meant.last.zones
        last_zones =
            one_zones (length left) pool.lanes pool.zones meant.last.lanes meant.last.zones left_long last_long (shape_of before pool means).shape.lanes_to (shape_of left meant.last meant.means).shape.lanes_to

        last_lanes : pool.lanes ≡ meant.last.lanes
        last_lanes = one_lanes (length left) pool.lanes pool.zones meant.last.lanes meant.last.zones left_long last_long last_zones

        pub run_replay : LeavesReplay before pool closed left
        run_replay = record {
          last = meant.last;
          means = meant.means;
          replays = shown_replay names left e.last e.numbered closed pool.lanes pool.zones pool e.shown (losses header begins) meant;
          page = λ i low other. page i low ∙ page_recovered before words pool means recovered i low other;
          root = page 64 (omega arith) ∙ recovered.words 64 (inl (omega arith));
          blocks =
              subst (λ n. map offset_in (blocks (recovered_at left n) n meant.last.zones) ≡ offsets meant.last.objects) last_lanes
              (subst (λ z. map offset_in (blocks (recovered_at left pool.lanes) pool.lanes z) ≡ offsets meant.last.objects) last_zones meant.blocks_are);
        }
