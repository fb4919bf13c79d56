-- LANES THAT TOOK TURNS went from world to world; and a table that closed tells that its lanes took
-- turns.
use Rattle.std.specs.Prelude.{List}
use Rattle.std.proofs.Common.{◌≡◌, ℕ, ◌^◌, ◌<◌, refl, sym, ap, ◌∙◌, subst}
use Rattle.pm_lanes.specs.Opens.{IsOpened}
use Rattle.pm_lanes.specs.Turns.{TookTurns, TurnsAreOfWorlds}
use Rattle.pm_shared.specs.Closings.{Closes}
use Rattle.pm_shared.specs.Openings.{fixed_of, generation_of, opening_of}
use Rattle.pm_shared.specs.declared.rule.Beginning.{Beginning}
use Rattle.pm_view.specs.View.{View}
use Rattle.pm_world.specs.Opens.{OpensIdle}
use Rattle.pm_world.specs.Runs.{IsWorld}
use Rattle.pm_world.specs.Sizes.{ObjectsFit}
use Rattle.pm_world.specs.World.{Past, Views, World}
use Rattle.pm_world.proofs.OpenFaults.{opens}
use Rattle.pm_world.proofs.RunsKept.{runs_keep}
use Rattle.pm_lanes.proofs.Recovered.{log, size, whole}

unfoldable pub took_turns : (b : Beginning) (back : List View) (words : List ℕ) → Closes b back words
    → TookTurns b back words
took_turns b back words closed = record {
  first = closed.run.begun;
  start = closed.run.begins.start;
  small = λ w. subst (λ x. x < 2 ^ 64) (closed.run.begins.start.words w)
      (closed.run.begins.world.small w);
  taken = closed.run.begins.taken;
  views_were = closed.run.begins.views_are;
  past_was = closed.run.begins.past_is;
  turns = closed.run.turns;
  last = closed.last;
  run = closed.run.run;
  size = closed.size;
  words_are = closed.words_are;
  views_are = closed.lanes;
}

module _ (image layout words : List ℕ) (b : Beginning) (back : List View)
    (is : IsOpened image layout b.words.items b.shape b.pool) (took : TookTurns b back words) where
  first_opens : OpensIdle (opening_of b) took.first.mem (fixed_of b) (generation_of b)
  first_opens = opens (opening_of b) took.first.mem (fixed_of b) (generation_of b) record {
    start = took.start;
    size = size image layout b is;
    small = took.small;
    retired = log image layout b is;
  } (whole image layout b is) took.taken

  past_is : first_opens.0 ≡ took.first.past
  past_is = first_opens.4 ∙ sym took.past_was

  first_world : IsWorld (opening_of b) took.first
  first_world =
      subst (λ (g : Past). World (opening_of b) took.first.mem took.first.views g) past_is
      (subst (λ (vs : Views). World (opening_of b) took.first.mem vs first_opens.0)
      (sym took.views_were) first_opens.1)

  closes : Closes b back words
  closes = record {
    last = took.last;
    world = runs_keep (opening_of b) took.turns took.first took.last first_world took.run;
    run = record {
      begun = took.first;
      begins = record {
        world = first_world;
        start = took.start;
        views_are = took.views_were;
        past_is = took.past_was;
        no_call = ap (λ (g : Past). g.length) took.past_was;
        words_are = took.start.words;
        taken = took.taken;
        whole = whole image layout b is;
        sizes = subst (λ (g : Past). ObjectsFit (opening_of b) g) past_is first_opens.3;
      };
      turns = took.turns;
      run = took.run;
    };
    size = took.size;
    words_are = took.words_are;
    lanes = took.views_are;
  }

pub of_worlds : TurnsAreOfWorlds
unfolding closes
of_worlds image layout words b back is took =
    (closes image layout words b back is took, refl, refl)
