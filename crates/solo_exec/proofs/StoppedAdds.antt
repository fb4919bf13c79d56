-- Where a lane that works alone stops while it records a range, the words that it may write are those that the lines of its call before that make.
use Rattle.std.proofs.Common.{◌≡◌, ℕ, ◌≤◌, ◌++◌, false, IsTrue, List, take, slice_index, ◌∙◌, ap, subst, arith}
use Rattle.std.specs.Option.{ForSome}
use Rattle.pm_header.specs.declared.header.Header.{Header}
use Rattle.pm_objects.specs.declared.pool.PoolView.{PoolView}
use Rattle.solo_memory.specs.Solo.{AreNumbered}
use Rattle.solo_crash.proofs.AloneCourse.{Grows, StandsAlone, begins_alone, grows_along, stands_at}
use Rattle.solo_crash.proofs.Leading.{leads_then}
use Rattle.solo_crash.proofs.OnTheWay.{numbered_front}
use Rattle.solo_crash.specs.Alone.{WorksAlone}
use Rattle.solo_crash.specs.Leading.{Leads}
use Rattle.solo_lock.proofs.Leading.{front_leads}
use Rattle.solo_script.specs.declared.script.ScriptLine.{ScriptLine}
use Rattle.solo_tx.specs.Ranges.{adds_range}
use Rattle.solo_view.specs.Area.{is_in_area}
use Rattle.solo_view.specs.Rights.{is_written}
use Rattle.solo_view.specs.Steps.{Step}
use Rattle.solo_view.specs.View.{View}
use Rattle.solo_view.specs.Views.{after_all}
use Rattle.solo_world.specs.Opening.{Opening}
use Rattle.solo_exec.proofs.AddedOutside.{AreSameOutside, added_outside_at}
use Rattle.solo_exec.proofs.Along.{alone_along}
use Rattle.solo_exec.proofs.FilledSlots.{adds_fill, fills_first}
use Rattle.solo_exec.proofs.KeptLines.{fills_lines, lines_of, looks_lines, written_before}
use Rattle.solo_exec.proofs.LooksAlone.{IsSameBut, looks_same}
use Rattle.solo_tx.proofs.Leading.{looks_lead as looks_led}
use Rattle.solo_exec.proofs.UndrainedSlots.{alone_lane}
use Rattle.solo_exec.specs.Progress.{IsInAdd}
use Rattle.solo_exec.specs.Torn.{words_after}
use Rattle.solo_exec.specs.declared.calls.Names.{Names}

-- o is the pool as it stood before the call
module _ (o : Opening) (header : Header) (held : PoolView) (first w : View) (steps : List Step) (names : Names) (lines : List ScriptLine) (works : WorksAlone o header held first steps w) (a : IsInAdd o first names lines w) where
  abbrev adds : List Step
  adds = adds_range a.spans a.id a.off a.len a.view

  abbrev u : View
  u = after_all a.view (take a.made adds)

  numbered : AreNumbered 1 u.entries
  numbered = subst (λ (v : View). AreNumbered 1 v.entries) a.is works.numbered

  within : ForSome u.stop (λ stop. u.calls ≤ stop)
  within = subst (λ (v : View). ForSome v.stop (λ stop. v.calls ≤ stop)) a.is works.within

  looked : (l : List Step) × (Leads a.before l a.view)
  looked = let l = looks_led a.loads a.before a.view a.looks in (l.0, l.1.0)

  to_view : Leads first (a.steps ++ looked.0) a.view
  to_view = leads_then first a.before a.view a.steps looked.0 a.leads looked.1

  -- the lane stands alone where it began to look
  before_stands : StandsAlone o header held a.before
  before_stands =
      let grows : Grows a.before u = grows_along a.before (looked.0 ++ take a.made adds) u (leads_then a.before a.view u looked.0 (take a.made adds) looked.1 (front_leads a.view adds a.made a.ready a.draws)) in
      stands_at o header held first a.steps a.before works.begins a.leads (numbered_front 1 a.before.entries grows.rest (subst (AreNumbered 1) grows.entries numbered))
      (λ stop is. let most = within stop (grows.stop ∙ is) in let more = grows.calls in omega (arith, most, more))

  same : IsSameBut a.before a.view
  same = looks_same a.loads a.before a.view a.looks (alone_along first a.before a.steps a.leads (begins_alone o header held first works.begins))

  -- its locks are of the same lines
  same_lines : lines_of u ≡ lines_of a.before
  same_lines =
      let some = fills_first _ _ adds a.made (adds_fill a.spans a.id a.off a.len a.view (alone_lane o header held first (a.steps ++ looked.0) a.view works.begins to_view)) in
      fills_lines a.view _ (take a.made adds) some.0 some.1 ∙ looks_lines a.loads a.before a.view a.looks

  pub words_in_add : (i : ℕ) → is_in_area 0 i ≡ false → IsTrue (is_written w i) → slice_index w.words i ≡ words_after names a.front (slice_index o.words) i
  words_in_add i outside written =
      let outside_same : AreSameOutside a.view u =
      added_outside_at o header held first a.view (a.steps ++ looked.0) a.spans a.id a.off a.len a.made works.begins to_view a.working a.spans_are a.ready a.draws numbered within in
      let stands : StandsAlone o header held w = stands_at o header held first steps w works.begins works.leads works.numbered works.within in
      let lines_w : lines_of w ≡ lines_of a.before = ap (λ (v : View). lines_of v) a.is ∙ same_lines in
      ap (λ (v : View). slice_index v.words i) a.is
      ∙ (outside_same i outside
      ∙ (ap (λ (words : List ℕ). slice_index words i) same.words ∙ a.words i (written_before o header held a.before w before_stands stands a.objects lines_w i written)))
