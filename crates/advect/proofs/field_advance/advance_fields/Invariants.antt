use Rattle.advect.specs.Lemmas.Advances.{AdvancesFields, NotesFields, field_in}
use Rattle.advect.specs.Lemmas.Streams.{stream_flux, stream_on}
use Rattle.advect.proofs.Insides.{elements}
use Rattle.advect.proofs.field_advance.advance_fields.Given as goal

abbrev pub invariant-loop-field : goal.invariant-loop-field
invariant-loop-field l = record {
  advances : AdvancesFields l.streams l.field l.initial.block l.block;
  low : NotesFields l.initial.block.edge l.field (λ f a. stream_flux (stream_on l.streams a) (field_in l.initial.block f) a 0) (elements l.initial.low.items) (elements l.low.items);
  high : NotesFields l.initial.block.edge l.field (λ f a. stream_flux (stream_on l.streams a) (field_in l.initial.block f) a l.initial.block.edge) (elements l.initial.high.items) (elements l.high.items);
}
