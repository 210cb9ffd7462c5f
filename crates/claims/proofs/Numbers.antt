-- The six types of numbers, as they come to code that is generic over them.
use mathlib.Core.Path.{refl}
use native.Mathlib.Omega.{arith}
use denote.Param.Laws.{of_copyable, of_field}
use denote.Param.Shared.{copy_shared}
use denote.Struct.Field.{i16-field, i32-field, i64-field, u16-field, u32-field, u64-field}
use denote.Struct.Laws.{i16-copy, i16-laws, i32-copy, i32-laws, i64-copy, i64-laws, u16-copy, u16-laws, u32-copy, u32-laws, u64-copy, u64-laws}
use Rattle.std.specs.contracts.prelude.I16Clone.TheImpl as i16_clone
use Rattle.std.specs.contracts.prelude.I32Clone.TheImpl as i32_clone
use Rattle.std.specs.contracts.prelude.I64Clone.TheImpl as i64_clone
use Rattle.std.specs.contracts.prelude.U16Clone.TheImpl as u16_clone
use Rattle.std.specs.contracts.prelude.U32Clone.TheImpl as u32_clone
use Rattle.std.specs.contracts.prelude.U64Clone.TheImpl as u64_clone
use Rattle.num.specs.contracts.number.I16Number2.TheImpl as i16_number
use Rattle.num.specs.contracts.number.I32Number4.TheImpl as i32_number
use Rattle.num.specs.contracts.number.I64Number8.TheImpl as i64_number
use Rattle.num.specs.contracts.number.U16Number2.TheImpl as u16_number
use Rattle.num.specs.contracts.number.U32Number4.TheImpl as u32_number
use Rattle.num.specs.contracts.number.U64Number8.TheImpl as u64_number
use Rattle.claims.proofs.Promise.{NumberType}

pub u16_type : NumberType
u16_type = record {
  T = u16-field.row;
  n = 2;
  laws = of_field u16-field u16-laws refl (copy_shared u16-field u16-copy);
  fits = record { fits = omega arith };
  copy = of_copyable u16-field u16-copy;
  ghosts = u16_number.ghosts;
  dict = u16_number.dict;
  clone = u16_clone.ghosts;
  clone_dict = u16_clone.dict;
}

pub u32_type : NumberType
u32_type = record {
  T = u32-field.row;
  n = 4;
  laws = of_field u32-field u32-laws refl (copy_shared u32-field u32-copy);
  fits = record { fits = omega arith };
  copy = of_copyable u32-field u32-copy;
  ghosts = u32_number.ghosts;
  dict = u32_number.dict;
  clone = u32_clone.ghosts;
  clone_dict = u32_clone.dict;
}

pub u64_type : NumberType
u64_type = record {
  T = u64-field.row;
  n = 8;
  laws = of_field u64-field u64-laws refl (copy_shared u64-field u64-copy);
  fits = record { fits = omega arith };
  copy = of_copyable u64-field u64-copy;
  ghosts = u64_number.ghosts;
  dict = u64_number.dict;
  clone = u64_clone.ghosts;
  clone_dict = u64_clone.dict;
}

pub i16_type : NumberType
i16_type = record {
  T = i16-field.row;
  n = 2;
  laws = of_field i16-field i16-laws refl (copy_shared i16-field i16-copy);
  fits = record { fits = omega arith };
  copy = of_copyable i16-field i16-copy;
  ghosts = i16_number.ghosts;
  dict = i16_number.dict;
  clone = i16_clone.ghosts;
  clone_dict = i16_clone.dict;
}

pub i32_type : NumberType
i32_type = record {
  T = i32-field.row;
  n = 4;
  laws = of_field i32-field i32-laws refl (copy_shared i32-field i32-copy);
  fits = record { fits = omega arith };
  copy = of_copyable i32-field i32-copy;
  ghosts = i32_number.ghosts;
  dict = i32_number.dict;
  clone = i32_clone.ghosts;
  clone_dict = i32_clone.dict;
}

pub i64_type : NumberType
i64_type = record {
  T = i64-field.row;
  n = 8;
  laws = of_field i64-field i64-laws refl (copy_shared i64-field i64-copy);
  fits = record { fits = omega arith };
  copy = of_copyable i64-field i64-copy;
  ghosts = i64_number.ghosts;
  dict = i64_number.dict;
  clone = i64_clone.ghosts;
  clone_dict = i64_clone.dict;
}
