-- All that a pass and the map entries compute with: `unfolding computed` opens it, for the table of worked cases.
-- Assumes nothing.
use Prim.Native.Nat.{ℕ}
use Rattle.definitions.specs.Lists
use Rattle.definitions.specs.Areas as A
use Rattle.definitions.specs.Slots
use Rattle.definitions.specs.References
use Rattle.definitions.specs.Roots
use Rattle.definitions.specs.Order
use Rattle.definitions.specs.Sweep
use Rattle.definitions.specs.Refusals
use Rattle.definitions.specs.Numbering
use Rattle.definitions.specs.Records
use Rattle.definitions.specs.Outcome as O
use Rattle.definitions.specs.MapEntries

unfoldable pub computed : ℕ
unfolding Lists.total Lists.gather Lists.count_up Lists.select Lists.all A.area_number A.numbered A.words A.width A.all_words A.widths A.limits A.length_of A.records_of A.size A.word A.pool A.mention_count A.mention_word A.same Slots.fill Slots.type_slots Slots.level_slots Slots.query_slots Slots.form_of Slots.expr_slots Slots.expr_body Slots.type_body Slots.body Slots.slots Slots.layout References.has_run References.span References.run References.named_by References.named_from References.references Roots.those Roots.mention Roots.is_named Roots.is_abstract Roots.root_constant Roots.named_override Roots.common_roots Roots.more_roots Roots.roots Order.behind Order.with_behind Order.one_past Order.sized_by Order.past_dep Order.falling Order.visits Order.order Order.later Order.well_ordered Sweep.has Sweep.visit Sweep.sweep Sweep.kept_from Refusals.first_of Refusals.scan Refusals.scan_areas Refusals.scan_records Refusals.scan_mentions Refusals.check1 Refusals.check2 Refusals.check3 Refusals.every Refusals.runs_before Refusals.shaped Refusals.shaped_at Refusals.pool_used Refusals.check4 Refusals.of_module Refusals.check5 Refusals.inside Refusals.held Refusals.held_at Refusals.check6 Refusals.check7 Refusals.under Refusals.turns Refusals.check Numbering.rank Numbering.new_handle Numbering.map_up_to Numbering.map_after Records.start_after Records.adjusted Records.adjusted_from Records.record_after Records.records_up_to Records.runs_up_to Records.mention_after Records.mentions_up_to Records.kept_areas Records.padded Records.areas_after O.lengths O.kept_counts O.maps_after O.outcome_of O.outcome MapEntries.lookup MapEntries.adjust MapEntries.live MapEntries.last MapEntries.spanned MapEntries.range
computed = 0
