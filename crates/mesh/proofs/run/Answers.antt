-- The sheet's bytes are enough, and what is printed is within them, by the report's promise. Assumes nothing.
use Rattle.std.proofs.Common.{ℕ, arith}
use Rattle.std.proofs.lemmas.List.{length-replicate}
use Rattle.report.proofs.Reporting.{report_served, report_within, report_part}
use Rattle.mesh.proofs.run.Goals as goal

pub unwrap-length-requires : goal.unwrap-length-requires
unwrap-length-requires g c = report_served _ _ _ c.mesh_report.result _ _ c.mesh_report.ensures (omega (arith, length-replicate {A = ℕ} 1024 0))

pub slice_bounds-sheet-end : goal.slice_bounds-sheet-end
slice_bounds-sheet-end g c = rw c.unwrap-length.ensures at (report_within _ _ _ _ _ c.mesh_report.ensures)

pub slice_bounds-write_all-end : goal.slice_bounds-write_all-end
slice_bounds-write_all-end g c = rw c.unwrap-length.ensures at (report_part _ _ _ _ _ c.mesh_report.ensures)
