-- The table and the lines that are to be written lie within their buffers.
use Rattle.std.proofs.Common.{sym}
use Rattle.std.proofs.lemmas.List.{length-take-le}
use Rattle.salvage_text.proofs.ToldLaws.{table_within, told_within}
use Rattle.salvage.proofs.get_back.Goals as goal

pub slice_bounds-table-end : goal.slice_bounds-table-end
slice_bounds-table-end c = table_within _ _ _ c.tell-told.ensures

pub slice_bounds-write_all-end : goal.slice_bounds-write_all-end
slice_bounds-write_all-end c = sym (length-take-le _ _ (table_within _ _ _ c.tell-told.ensures))

pub slice_bounds-out-end : goal.slice_bounds-out-end
slice_bounds-out-end c = told_within _ _ _ c.tell-told.ensures

pub slice_bounds-write_all-end-2 : goal.slice_bounds-write_all-end-2
slice_bounds-write_all-end-2 c = sym (length-take-le _ _ (told_within _ _ _ c.tell-told.ensures))
