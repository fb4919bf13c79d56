pub mod RootLooks
