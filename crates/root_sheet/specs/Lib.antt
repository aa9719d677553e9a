pub mod RootSheet
