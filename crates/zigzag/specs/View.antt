-- A store's fields, as contracts see them.
use Rattle.zigzag.specs.Zigzag.{Arrays}
use Rattle.zigzag.specs.declared.zigzag.Zigzag.TheInside.{Inside}

abbrev pub arrays_of : Inside → Arrays
arrays_of store = record {
  array_zero = store.array_zero.items;
  array_one = store.array_one.items;
  read_marks = store.read_marks;
  write_marks = store.write_marks;
  taken = store.taken;
}
