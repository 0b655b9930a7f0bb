-- How each fault of a sheet's call is told: its number, and what it names.
use Rattle.books.specs.declared.refusal.Refusal.{Refusal}
use Rattle.books.specs.Refusals.{told_plain, told_naming, told_naming_two}
use Rattle.slips.specs.Fault.{slip_refusal}
use Rattle.sheet_faults.specs.declared.OpenFault.{OpenFault}
use Rattle.sheet_faults.specs.declared.PostFault.{PostFault}
use Rattle.sheet_faults.specs.declared.TakeFault.{TakeFault}
use Rattle.sheet_faults.specs.declared.DocketCause.{DocketCause}
use Rattle.sheet_faults.specs.declared.RestoreFault.{RestoreFault}
use Rattle.sheet_faults.specs.declared.CloseCause.{CloseCause}
use Rattle.sheet_faults.specs.declared.CheckFault.{CheckFault}

abbrev pub open_refusal : OpenFault → Refusal
open_refusal OpenFault.Disagrees = told_plain 11

abbrev pub post_refusal : PostFault → Refusal
post_refusal PostFault.Disagrees = told_plain 11
post_refusal (PostFault.PieceOutside p) = told_naming 8 p
post_refusal PostFault.QueueFull = told_plain 12

abbrev pub take_refusal : TakeFault → Refusal
take_refusal TakeFault.Disagrees = told_plain 11
take_refusal TakeFault.NothingWaits = told_plain 13

abbrev pub docket_refusal : DocketCause → Refusal
docket_refusal DocketCause.Disagrees = told_plain 11
docket_refusal DocketCause.NotOut = told_plain 14

abbrev pub restore_refusal : RestoreFault → Refusal
restore_refusal RestoreFault.Disagrees = told_plain 11
restore_refusal (RestoreFault.PieceOutside p) = told_naming 8 p
restore_refusal (RestoreFault.NotStruck p) = told_naming 15 p

abbrev pub close_refusal : CloseCause → Refusal
close_refusal CloseCause.Disagrees = told_plain 11
close_refusal (CloseCause.Unsettled waiting out) = told_naming_two 16 waiting out

abbrev pub check_refusal : CheckFault → Refusal
check_refusal CheckFault.Disagrees = told_plain 11
check_refusal (CheckFault.Slip f) = slip_refusal f
