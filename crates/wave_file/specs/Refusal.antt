-- The numbers of what refuses writing or reading a file.
use Rattle.std.specs.Prelude.{ℕ}
use Rattle.wave_file.specs.declared.refusal.FileRefusal.{FileRefusal}
use Rattle.wave_file.specs.declared.refusal.FileRefusal.TheVariants.{Rate, Frames, Room, Format, Structure}

-- 01's and 02's number of a refusal
abbrev pub number_of : FileRefusal → ℕ
number_of Rate = 1
number_of Frames = 2
number_of Room = 23
number_of Format = 36
number_of Structure = 37

-- what writing or reading comes to: a refusal's number, or what is written or read
pub data FileResult (A : Type 0) : Type 0 where
  refused : ℕ → FileResult A
  accepted : A → FileResult A

-- the same of a part of what is accepted
abbrev pub part_of : {A B : Type 0} → (A → B) → FileResult A → FileResult B
part_of f (refused number) = refused number
part_of f (accepted a) = accepted (f a)
