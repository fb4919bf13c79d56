use Rattle.std.proofs.Common.{◌≡◌, ◌+◌, ◌*◌, ◌/◌, ◌<◌, ◌≤◌, ⊎_elim, ℕ, length, slice_index, refl, sym, ◌∙◌, subst, arith, rules}
use Rattle.std.proofs.lemmas.Bool.{cases_lt}
use Rattle.solo_view.specs.Steps.Step.{Load}
use Rattle.solo_world.specs.Sequences.{IsMade, looks}
use Rattle.solo_world.proofs.Sequencing.{counted_none, counted_next, counted_more, runs_look, allowed_look}
use Rattle.solo_undo.specs.Sequences.{looks_from}
use Rattle.solo_undo.proofs.Looking.{all_looks, look_found}
use Rattle.solo_tx.specs.Sequences.{reads, word_count}
use Rattle.solo_tx.proofs.Parts.{byte_of_word, counts_all}
use Rattle.solo_tx.proofs.words.read_words.Goals as goal

pub loop-i-init : goal.loop-i-init
loop-i-init g c = record {
  made = counted_none (g.M.LaneMem.at c.args.mem.now) (λ i. looks (c.args.place / 8 + i));
  as_long = refl;
  found = λ v seen r k within below. absurd (omega (arith, below));
}

pub load-x-requires : goal.load-x-requires
unfolding reads looks_from
load-x-requires g c found =
    let ready = counted_next (g.M.LaneMem.at c.args.mem.now) (λ i. looks (c.args.place / 8 + i)) (word_count c.args.place (length c.args.into.now)) c.loop-i.i (g.M.LaneMem.at c.loop-i.mem) tt
    (subst (λ n. c.loop-i.i < n) c.count_words-i-end.ensures c.loop-i-test.true) c.requires.ready c.loop-i.invariant.made in
    let r = allowed_look (g.M.LaneMem.at c.loop-i.mem) (c.args.place / 8 + c.loop-i.i) ready in
    g.met.M.LawfulMem.meets c.loop-i.mem r.0 (Load (c.args.place / 8 + c.loop-i.i) found) r.1.0 (r.1.1 found)

pub loop-i-preserved : goal.loop-i-preserved
unfolding reads
loop-i-preserved g c =
    let old = g.M.LaneMem.at c.args.mem.now in
    let mid = g.M.LaneMem.at c.loop-i.mem in
    let word : ℕ = c.args.place / 8 + c.loop-i.i in
    let long = c.loop-i.invariant.as_long in
    record {
      made = counted_more old (λ i. looks (c.args.place / 8 + i)) c.loop-i.i mid (g.M.LaneMem.at c.load-x.new.self) tt tt c.loop-i.invariant.made (runs_look mid (g.M.LaneMem.at c.load-x.new.self) word c.load-x.result c.load-x.ensures);
      as_long = c.copy_part.ensures.as_long ∙ long;
      found = λ v seen r k within below.
          let is : c.load-x.result ≡ slice_index v.words word = look_found old mid (c.args.place / 8) c.loop-i.i (word_count c.args.place (length c.args.into.now)) c.load-x.result
          (subst (λ n. c.loop-i.i < n) c.count_words-i-end.ensures c.loop-i-test.true) c.loop-i.invariant.made (λ w there. (c.load-x.ensures w there).1) v seen r in
          ⊎_elim
          (λ (lower : c.args.place + k < 8 * word). c.copy_part.ensures.before k lower ∙ c.loop-i.invariant.found v seen r k within lower)
          (λ (upper : 8 * word ≤ c.args.place + k).
          let last : c.args.place + k < 8 * word + 8 = omega (arith, below) in
          c.copy_part.ensures.inside k (subst (λ n. k < n) (sym long) within) upper last ∙ byte_of_word v.words (c.args.place + k) word c.load-x.result upper last is)
          (cases_lt (c.args.place + k) (8 * word));
    }

pub returns-clause-made : goal.returns-clause-made
unfolding reads looks_from
returns-clause-made g c =
    subst (λ (n : ℕ). IsMade (g.M.LaneMem.at c.args.mem.now) (g.M.LaneMem.at c.loop-i.mem) (all_looks (c.args.place / 8) n))
    (let e : c.loop-i.i ≡ c.count_words-i-end.result = search rules in e ∙ c.count_words-i-end.ensures) c.loop-i.invariant.made

pub returns-clause-found : goal.returns-clause-found
returns-clause-found g c v seen r k within =
    let up : c.loop-i.i ≡ word_count c.args.place (length c.args.into.now) = (let e : c.loop-i.i ≡ c.count_words-i-end.result = search rules in e ∙ c.count_words-i-end.ensures) in
    c.loop-i.invariant.found v seen r k within (subst (λ n. c.args.place + k < 8 * (c.args.place / 8 + n)) (sym up) (counts_all c.args.place (length c.args.into.now) k within))
