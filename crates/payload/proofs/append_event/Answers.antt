use Rattle.payload.proofs.PartLaws.{fits_one, fits_two, fits_three, all_laid}
use Rattle.payload.proofs.append_event.Goals as goal

pub append_values-values-requires : goal.append_values-values-requires
append_values-values-requires c = fits_one c.args.src.now c.args.p.now c.args.made c.args.drawn c.requires.drawn_le_drawn.1 c.args.text.now c.args.used c.requires.drawn_in_bounds

pub append_text-end-requires : goal.append_text-end-requires
append_text-end-requires c = fits_two c.args.src.now c.args.p.now c.args.made c.args.drawn c.requires.drawn_le_drawn.1 c.args.text.now c.args.used c.requires.drawn_in_bounds _ _ c.append_values-values.ensures.value c.append_values-values.ensures.text_after

pub append_name-requires : goal.append_name-requires
append_name-requires c = (c.requires.drawn_le_drawn.0, fits_three c.args.src.now c.args.p.now c.args.made c.args.drawn c.requires.drawn_le_drawn.1 c.args.text.now c.args.used c.requires.drawn_in_bounds _ _ c.append_values-values.ensures.value c.append_values-values.ensures.text_after _ _ c.append_text-end.ensures.value c.append_text-end.ensures.text_after)

pub returns : goal.returns
returns c = let r = all_laid c.args.src.now c.args.p.now c.args.made c.args.drawn c.requires.drawn_le_drawn.1 c.args.text.now c.args.used c.requires.drawn_in_bounds _ _ c.append_values-values.ensures.value c.append_values-values.ensures.text_after _ _ c.append_text-end.ensures.value c.append_text-end.ensures.text_after _ _ (c.append_name.ensures.value, c.append_name.ensures.text_after) in record { value = r.0; text_after = r.1 }
