-- One more call of a run, behind those that were answered.
use Rattle.std.proofs.Math.Bridge.{le_prop}
use Rattle.std.proofs.Common.{◌≡◌, inl, inr, ℕ, ◌+◌, ◌<◌, ◌≤◌, ◌%◌, ◌^◌, List, [], ◌∷◌, ◌++◌, length, slice_index, Option, None, refl, sym, ap, ◌∙◌, subst, arith}
use Rattle.solo_crash.specs.Alone.{standing}
use Rattle.pm_layout.specs.declared.shape.Shape.{Shape}
use Rattle.solo_lock.proofs.Leads.{led_same}
use Rattle.solo_made.specs.Made.{BlockLists}
use Rattle.solo_memory.specs.Solo.{Sees, Solo}
use Rattle.pm_objects.specs.declared.calls.Call.{Call}
use Rattle.pm_objects.specs.declared.history.Entry.{Entry}
use Rattle.pm_objects.specs.declared.history.Fate.{Fate}
use Rattle.pm_objects.specs.declared.history.Reply.{Reply}
use Rattle.solo_script.specs.declared.script.ScriptLine.{ScriptLine}
use Rattle.pm_text.specs.declared.report.LaneEnd.TheVariants as end
use Rattle.solo_view.proofs.SameLane.{same_lane-then}
use Rattle.solo_view.specs.Area.{area_word}
use Rattle.solo_view.specs.View.{Numbered, View}
use Rattle.solo_world.specs.Opening.{Opening}
use Rattle.solo_world.specs.Records.{generation_of}
use Rattle.solo_world.specs.declared.lane.Lane.{Lane}
use Rattle.solo_exec.proofs.FewStores.{walked_then, walked_within, calls_more}
use Rattle.solo_exec.specs.Bounds.{stores_of_call, stores_of_calls}
use Rattle.solo_exec.specs.Calls.{call_of, numbers_of}
use Rattle.solo_exec.specs.Course.{CallsMade, IsCallMade}
use Rattle.solo_exec.specs.Histories.{settled_fate}
use Rattle.solo_exec.specs.Progress.{IsAnswered, IsHalted, IsStart, IsUnbegun, KeepsReserved}
use Rattle.solo_exec.specs.Replies.{AreEntries, IsEntryOf}
use Rattle.solo_exec.specs.Running.{HasComeTo, HasHalted, open_entry}
use Rattle.solo_exec.specs.declared.calls.Names.{Names}
use Rattle.solo_exec.specs.declared.running.Halt.{Halt}
use Rattle.solo_exec.proofs.Starts.{start_lane}
use Rattle.solo_pending.specs.declared.pending.PendingActions.{PendingActions}
use Rattle.solo_exec.specs.declared.ending.CallAnswer.{CallAnswer}

-- a shape is how many lanes and zones there are: layouts have one version
one_shape : (a b : Shape) → a.lanes ≡ b.lanes → a.zones ≡ b.zones → a ≡ b
one_shape a b lanes zones =
    let is_same : (n m z : ℕ) → Type 0 = λ n m z. (f : 1 ≤ n) (t : n ≤ 1) (l : 1 ≤ m) (h : m ≤ 32) (k : 1 ≤ z) (j : z ≤ 32) → a ≡ record { version = n; lanes = m; zones = z; version_from = f; version_to = t; lanes_from = l; lanes_to = h; zones_from = k; zones_to = j } in
    let version : a.version ≡ b.version = (let from = a.version_from in let to = a.version_to in let other_from = b.version_from in let other_to = b.version_to in omega (arith, from, to, other_from, other_to)) in
    subst (λ n. is_same n b.lanes b.zones) version
    (subst (λ m. is_same a.version m b.zones) lanes
    (subst (is_same a.version a.lanes) zones
    (λ f t l h k j i. record { version = a.version; lanes = a.lanes; zones = a.zones; version_from = le_prop a.version_from f i; version_to = le_prop a.version_to t i; lanes_from = le_prop a.lanes_from l i; lanes_to = le_prop a.lanes_to h i; zones_from = le_prop a.zones_from k i; zones_to = le_prop a.zones_to j i })))
    b.version_from b.version_to b.lanes_from b.lanes_to b.zones_from b.zones_to

-- its entry is the last
entries_then : (names : Names) (calls : List (List ScriptLine)) (history : List Entry) (entries : List Numbered) (call : List ScriptLine) (e : Entry) (n : Numbered)
    → AreEntries names calls history entries → IsEntryOf names call e n → AreEntries names (calls ++ call ∷ []) (history ++ e ∷ []) (entries ++ n ∷ [])
entries_then names [] [] [] call e n are is = (is, tt)
entries_then names [] [] (m ∷ entries) call e n are is = absurd are
entries_then names [] (d ∷ history) entries call e n are is = absurd are
entries_then names (c ∷ calls) [] entries call e n are is = absurd are
entries_then names (c ∷ calls) (d ∷ history) [] call e n are is = absurd are
entries_then names (c ∷ calls) (d ∷ history) (m ∷ entries) call e n are is = (are.0, entries_then names calls history entries call e n are.1 is)

-- it is made behind the others
made_then : (names : Names) (calls : List (List ScriptLine)) (history : List Entry) (call : List ScriptLine) (d : Entry) (e : CallAnswer) (u v w : View) → CallsMade names calls history u v → d.fate ≡ settled_fate e → IsCallMade names call e v w
    → CallsMade names (calls ++ call ∷ []) (history ++ d ∷ []) u w
unfolding CallsMade
made_then names [] [] call d e u v w made settled is = (w, e, settled, subst (λ (m : View). IsCallMade names call e m w) made is, refl)
made_then names [] (h ∷ history) call d e u v w made settled is = absurd made
made_then names (c ∷ calls) [] call d e u v w made settled is = absurd made
made_then names (c ∷ calls) (h ∷ history) call d e u v w made settled is = (made.0, made.1, made.2, made.3, made_then names calls history call d e made.0 v w made.4 settled is)

module _ (o : Opening) (first : View) (lane : Lane Solo) (blocks : BlockLists) (actions : PendingActions) (names : Names) (calls : List (List ScriptLine)) (history : List Entry) (h : HasComeTo o first lane blocks actions names calls history) where
  -- where those were answered, the lane may begin it
  pub begins : IsStart (standing o h.answered.view) lane blocks actions h.answered.view
  begins =
      let a = h.answered in
      record {
        rests = a.rests;
        header = h.header;
        pool = h.pool;
        begins = a.called.again h.header h.pool h.begins;
        keeps = a.keeps;
        pages = a.pages;
        pending = a.pending;
      }

  -- the word of its generation, as its memory has it
  generation_seen : (found : ℕ) → found ≡ slice_index lane.memory.words 512 → found ≡ generation_of h.answered.view
  generation_seen found is =
      let v : View = h.answered.view in
      is ∙ ap (λ (words : List ℕ). slice_index words 512) (sym h.answered.rests.seen.memory.words) ∙ ap (λ (n : ℕ). slice_index v.words (area_word n)) (sym (start_lane (standing o v) lane blocks actions v begins))

  -- its memory has that word
  pub generation_inside : 512 < length lane.memory.words
  generation_inside =
      let inside = h.answered.rests.place.inside in
      let same = ap length h.answered.rests.seen.memory.words in
      omega (arith, inside, same)

  module _ (lines : List ScriptLine) (new : Lane Solo) where
    -- it was answered too
    pub one_more : (now : BlockLists) (left : PendingActions) (number : ℕ) (e : CallAnswer) (reply : Reply) (call : Call) (fate : Fate) → IsAnswered (standing o h.answered.view) h.answered.view new now left names lines number e reply → call ≡ call_of names lines → fate ≡ settled_fate e
        → HasComeTo o first new now left names (calls ++ lines ∷ []) (history ++ record { number = number; call = call; reply = reply; fate = fate } ∷ [])
    one_more now left number e reply call fate x is settled =
        let a = h.answered in
        record {
          header = h.header;
          pool = h.pool;
          begins = h.begins;
          answered = record {
            view = x.view;
            called = record {
              are = subst (AreEntries names (calls ++ lines ∷ []) (history ++ record { number = number; call = call; reply = reply; fate = fate } ∷ [])) (sym x.entries)
                  (entries_then names calls history a.view.entries lines (record { number = number; call = call; reply = reply; fate = fate }) (record { number = number; call = x.told }) a.called.are
                  (record { number = refl; call = is; answer = e; ended = x.so; fate = settled }));
              again = λ header pool begins. x.link.again header pool (a.called.again header pool begins);
              page = λ header pool begins i low. x.link.page header pool (a.called.again header pool begins) i low ∙ a.called.page header pool begins i low;
              same = same_lane-then first a.view x.view a.called.same x.link.same;
              made = made_then names calls history lines (record { number = number; call = call; reply = reply; fate = fate }) e first a.view x.view a.called.made settled x.made;
              bound =
                  walked_within first x.view (stores_of_calls names calls + stores_of_call names lines) (stores_of_calls names (calls ++ lines ∷ [])) (let more = calls_more names calls lines in omega (arith, more))
                  (walked_then first a.view x.view (stores_of_calls names calls) (stores_of_call names lines) a.called.bound x.link.bound);
            };
            rests = x.rests;
            idle = x.idle;
            keeps = x.keeps;
            pages = x.pages;
            pending = x.pending;
          };
        }

    -- in it the lane stopped
    pub stopped_in : (left : PendingActions) (number : Option ℕ) (reply : Reply) (made found : ℕ) (halt : Halt) → (x : IsHalted (standing o h.answered.view) h.answered.view new names lines number reply)
        → ((v : View) → Sees new.memory v → made ≡ v.calls % 2 ^ 64) → found ≡ slice_index lane.memory.words 512
        → halt.is_open ≡ open_entry names lines number reply → halt.generation ≡ found → halt.end ≡ end.Stopped made → HasHalted o first new left names calls lines history halt
    stopped_in left number reply made found halt x counts is is_open generation ends = inl (record {
      before = h.answered.view;
      called = h.answered.called;
      idle = h.answered.idle;
      number = number;
      reply = reply;
      halted = x;
      is_open = is_open;
      generation = generation ∙ generation_seen found is;
      ends = ends ∙ ap (λ (n : ℕ). end.Stopped n) (counts x.cut.view x.cut.seen);
    })

    -- it is of the same shape still where it could not begin
    shape_still : {left : PendingActions} → IsUnbegun h.answered.view new left → new.shape ≡ lane.shape
    shape_still x =
        let old = h.answered.rests.seen.shape in let now = x.rests.seen.shape in let same = led_same h.answered.view x.view x.free.led in
        one_shape new.shape lane.shape (sym now.lanes ∙ (same.lanes ∙ old.lanes)) (sym now.zones ∙ (same.zones ∙ old.zones))

    -- it could not begin
    pub spent_at : (left : PendingActions) (line found : ℕ) (halt : Halt) → IsUnbegun h.answered.view new left → slice_index (numbers_of lines) 0 ≡ line → found ≡ slice_index lane.memory.words 512
        → halt.is_open ≡ None → halt.generation ≡ found → halt.end ≡ end.Spent line → HasHalted o first new left names calls lines history halt
    spent_at left line found halt x at is is_open generation ends = inr (record {
      header = h.header;
      pool = h.pool;
      begins = h.begins;
      before = h.answered.view;
      called = h.answered.called;
      idle = h.answered.idle;
      keeps = subst (λ (s : Shape). KeepsReserved (standing o h.answered.view) s h.answered.view) (sym (shape_still x)) h.answered.keeps;
      unbegun = x;
      is_open = is_open;
      generation = generation ∙ generation_seen found is;
      line = line;
      of_line = at;
      ends = ends;
    })
