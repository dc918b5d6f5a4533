-- Known bytes that grow, and grow on. Use where several writes follow one another, any of which may fail. Assumes nothing.
use Rattle.std.proofs.Common.{ℕ, List, [], ◌++◌}
use Rattle.std.specs.declared.option.Option.{Option}
use Rattle.std.proofs.KnownBytes.{Appends-nil, Appends-trans}
use Rattle.programs.specs.Streams.{Grows}

pub grows_none : (a : Option (List ℕ)) → Grows a a
grows_none a = ([], Appends-nil a)

pub grows_then : (a b c : Option (List ℕ)) → Grows a b → Grows b c → Grows a c
grows_then a b c p q = (p.0 ++ q.0, Appends-trans a b c p.0 q.0 p.1 q.1)
