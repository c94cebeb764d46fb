use Rattle.std.proofs.Common.{◌≡◌, ℕ, ◌+◌, ◌*◌, ◌^◌, ◌<◌, List, length, sym, subst, refl, arith, Vec, Global}
use Rattle.std.proofs.lemmas.List.{length-map}
use Rattle.block_fields.specs.Blocks.{BlockState}
use Rattle.advect.specs.Lemmas.Advances.{AdvancesFields, NotesFields, field_in}
use Rattle.advect.specs.Lemmas.Rims.{AreSides, NotesField}
use Rattle.advect.specs.Lemmas.Streams.{Field, stream_flux, stream_on}
use Rattle.advect.specs.declared.stream.Streams.{Streams}
use Rattle.advect.proofs.Advanced.{advances-more, advances-none, notes-more, notes-none, same-field, still-small}
use Rattle.advect.proofs.Insides.{elements}
use Rattle.advect.proofs.field_advance.advance_fields.Goals as goal

pub loop-field-init : goal.loop-field-init
loop-field-init c =
    let b = c.args.block.now in
    let s = c.args.streams in
    record {
      advances = advances-none s b;
      low = notes-none b.edge (λ f a. stream_flux (stream_on s a) (field_in b f) a 0) (elements c.args.low.now.items) c.requires.low;
      high = notes-none b.edge (λ f a. stream_flux (stream_on s a) (field_in b f) a b.edge) (elements c.args.high.now.items) c.requires.high;
    }

-- there is room for the lists of a field
room : (now old : List (Vec ℕ Global)) (F f : ℕ) → length (elements now) ≡ length (elements old) → length old ≡ 3 * F → f < F → 3 * f + 2 < length now
room now old F f same long h =
    let a = length-map now (λ (v : Vec ℕ Global). v.items) in
    let b = length-map old (λ (v : Vec ℕ Global). v.items) in
    omega (arith, a, b, same, long, h)

pub advance_field-requires-clause-field : goal.advance_field-requires-clause-field
advance_field-requires-clause-field c =
    omega (arith, c.loop-field.invariant.advances.fields, c.loop-field-test.true, c.fields-field-end.ensures.fields)

pub advance_field-requires-clause-at_low : goal.advance_field-requires-clause-at_low
advance_field-requires-clause-at_low c =
    room c.loop-field.low.items c.args.low.now.items (length c.args.block.now.amounts) c.loop-field.field c.loop-field.invariant.low.long c.requires.all_low (omega (arith, c.loop-field-test.true, c.fields-field-end.ensures.fields))

pub advance_field-requires-clause-at_high : goal.advance_field-requires-clause-at_high
advance_field-requires-clause-at_high c =
    room c.loop-field.high.items c.args.high.now.items (length c.args.block.now.amounts) c.loop-field.field c.loop-field.invariant.high.long c.requires.all_high (omega (arith, c.loop-field-test.true, c.fields-field-end.ensures.fields))

pub advance_field-requires-clause-low : goal.advance_field-requires-clause-low
advance_field-requires-clause-low c = subst (λ n. AreSides n (elements c.loop-field.low.items)) (sym c.loop-field.invariant.advances.edge) c.loop-field.invariant.low.sizes

pub advance_field-requires-clause-high : goal.advance_field-requires-clause-high
advance_field-requires-clause-high c = subst (λ n. AreSides n (elements c.loop-field.high.items)) (sym c.loop-field.invariant.advances.edge) c.loop-field.invariant.high.sizes

pub advance_field-requires-clause-small : goal.advance_field-requires-clause-small
advance_field-requires-clause-small c =
    still-small c.args.streams c.loop-field.field (2 ^ 42) c.args.block.now c.loop-field.block c.loop-field.invariant.advances (omega (arith, c.loop-field-test.true, c.fields-field-end.ensures.fields)) c.requires.small

-- a field's notes, with the block as it was
notes : (s : Streams) (f : ℕ) (b d : BlockState) → AdvancesFields s f b d → (lists now : List (List ℕ)) (u : BlockState → ℕ) →
    NotesField d.edge f (λ a. stream_flux (stream_on s a) (field_in d f) a (u d)) lists now → u d ≡ u b → NotesField b.edge f (λ a. stream_flux (stream_on s a) (field_in b f) a (u b)) lists now
notes s f b d w lists now u one e =
    subst (λ n. NotesField n f (λ a. stream_flux (stream_on s a) (field_in b f) a (u b)) lists now) w.edge
    (subst (λ t. NotesField d.edge f (λ a. stream_flux (stream_on s a) (field_in b f) a t) lists now) e
    (subst (λ (q : Field). NotesField d.edge f (λ a. stream_flux (stream_on s a) q a (u d)) lists now) (same-field s f b d w f (omega arith)) one))

pub loop-field-preserved : goal.loop-field-preserved
loop-field-preserved c =
    let b = c.args.block.now in
    let d = c.loop-field.block in
    let s = c.args.streams in
    let f = c.loop-field.field in
    let w = c.loop-field.invariant in
    record {
      advances = advances-more s f b d c.advance_field.new.block w.advances c.advance_field.ensures.advances;
      low = notes-more b.edge f (λ f a. stream_flux (stream_on s a) (field_in b f) a 0) (λ a. stream_flux (stream_on s a) (field_in b f) a 0)
          (elements c.args.low.now.items) (elements c.loop-field.low.items) (elements c.advance_field.new.low.items) w.low
          (notes s f b d w.advances (elements c.loop-field.low.items) (elements c.advance_field.new.low.items) (λ b. 0) c.advance_field.ensures.low refl) (λ a i j. refl);
      high = notes-more b.edge f (λ f a. stream_flux (stream_on s a) (field_in b f) a b.edge) (λ a. stream_flux (stream_on s a) (field_in b f) a b.edge)
          (elements c.args.high.now.items) (elements c.loop-field.high.items) (elements c.advance_field.new.high.items) w.high
          (notes s f b d w.advances (elements c.loop-field.high.items) (elements c.advance_field.new.high.items) (λ b. b.edge) c.advance_field.ensures.high w.advances.edge) (λ a i j. refl);
    }

pub returns : goal.returns
returns c =
    let b = c.args.block.now in
    let s = c.args.streams in
    let w = c.loop-field.invariant in
    let e : c.loop-field.field ≡ length b.amounts = omega (arith, c.loop-field-test.false, c.loop-field.auto.field-end, c.fields-field-end.ensures.fields) in
    record {
      advances = subst (λ f. AdvancesFields s f b c.loop-field.block) e w.advances;
      low = subst (λ f. NotesFields b.edge f (λ f a. stream_flux (stream_on s a) (field_in b f) a 0) (elements c.args.low.now.items) (elements c.loop-field.low.items)) e w.low;
      high = subst (λ f. NotesFields b.edge f (λ f a. stream_flux (stream_on s a) (field_in b f) a b.edge) (elements c.args.high.now.items) (elements c.loop-field.high.items)) e w.high;
      limits = c.fields-field-end.ensures.limits;
    }
