use Rattle.std.proofs.Common.{◌∙◌, sym, ap}
use Rattle.solo_script.specs.Numbers.{is_numeral}
use Rattle.solo_script.proofs.Numerals.{number_of-not, number_of-parsed}
use Rattle.solo_script.proofs.numbers.number.Goals as goal

pub returns-then-is_numeral : goal.returns-then-is_numeral
returns-then-is_numeral c =
    c.ok.ensures.value ∙ number_of-parsed c.args.text.now c.parse.result c.parse.ensures.value.0 (ap is_numeral (sym c.as_bytes.ensures.value) ∙ sym c.is_numeral.ensures ∙ c.if-is_numeral.true)

pub returns-else-is_numeral : goal.returns-else-is_numeral
returns-else-is_numeral c = number_of-not c.args.text.now (ap is_numeral (sym c.as_bytes.ensures.value) ∙ sym c.is_numeral.ensures ∙ c.if-is_numeral.false)
