-- `replay::print_answer` meets its contract. Assumes nothing.
use Rattle.std.proofs.Common.{rules}
use Rattle.programs.proofs.Grown.{grows_then}
use Rattle.replay.proofs.print_answer.Goals as goal

pub returns-in_err-print_i64 : goal.returns-in_err-print_i64
returns-in_err-print_i64 g c = grows_then _ _ _ c.print_text.ensures.grows c.print_i64.ensures

pub returns-in_err-print_u64 : goal.returns-in_err-print_u64
returns-in_err-print_u64 g c = grows_then _ _ _ (grows_then _ _ _ c.print_text.ensures.grows c.print_i64.ensures) c.print_u64.ensures.grows

pub returns-in_err-print_text-2 : goal.returns-in_err-print_text-2
returns-in_err-print_text-2 g c =
    let numbers = grows_then _ _ _ (grows_then _ _ _ c.print_text.ensures.grows c.print_i64.ensures) c.print_u64.ensures.grows in
    grows_then _ _ _ numbers c.print_text-2.ensures.grows

pub returns-else-is_named : goal.returns-else-is_named
returns-else-is_named g c =
    let numbers = grows_then _ _ _ (grows_then _ _ _ c.print_text.ensures.grows c.print_i64.ensures) c.print_u64.ensures.grows in
    grows_then _ _ _ numbers c.print_text-2.ensures.grows

pub returns-in_err-print_text-3 : goal.returns-in_err-print_text-3
returns-in_err-print_text-3 g c =
    let numbers = grows_then _ _ _ (grows_then _ _ _ c.print_text.ensures.grows c.print_i64.ensures) c.print_u64.ensures.grows in
    grows_then _ _ _ (grows_then _ _ _ numbers c.print_text-2.ensures.grows) c.print_text-then-is_named.ensures.grows

pub returns-in_err-print_text-4 : goal.returns-in_err-print_text-4
returns-in_err-print_text-4 g c =
    let numbers = grows_then _ _ _ (grows_then _ _ _ c.print_text.ensures.grows c.print_i64.ensures) c.print_u64.ensures.grows in
    let shown = grows_then _ _ _ (grows_then _ _ _ numbers c.print_text-2.ensures.grows) c.print_text-then-is_named.ensures.grows in
    grows_then _ _ _ shown c.print_text-then-is_named-2.ensures.grows

pub returns-in_ok-print_text-4 : goal.returns-in_ok-print_text-4
returns-in_ok-print_text-4 g c =
    let numbers = grows_then _ _ _ (grows_then _ _ _ c.print_text.ensures.grows c.print_i64.ensures) c.print_u64.ensures.grows in
    let shown = grows_then _ _ _ (grows_then _ _ _ numbers c.print_text-2.ensures.grows) c.print_text-then-is_named.ensures.grows in
    grows_then _ _ _ shown c.print_text-then-is_named-2.ensures.grows
