use Rattle.std.proofs.Common.{inl, inr, rules, sym, ◌∙◌}
use Rattle.osc_text.proofs.HexWords.{decodes_spells, odd_digits, spells_decodes}
use Rattle.osc_text.proofs.hex_word.read_hex.Goals as goal

pub returns-in-Ok-clause-spelled : goal.returns-in-Ok-clause-spelled
returns-in-Ok-clause-spelled c = decodes_spells c.args.word.now c.in-Ok.bytes.items c.in-Ok.ensures.ok

pub returns-in-None : goal.returns-in-None
returns-in-None c =
    let digits = sym c.first_no_digit.ensures ∙ c.in-None.is in
    record {
      spelled = tt;
      refused = elim c.in-Err.ensures.err [
        | inl full ↦ search rules
        | inr bad ↦ (λ bytes h. spells_decodes c.args.word.now bytes c.in-Err.field-0 h bad, digits, odd_digits c.args.word.now c.in-Err.field-0 bad digits)
      ];
    }
